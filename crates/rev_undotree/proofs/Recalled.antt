-- A step and its record, by the states at its two ends: what the record tells of a key, and that a key which it does
-- not name stays as it was.
use Rattle.std.specs.Prelude.{ℕ, ◌≡◌, Bool, true, false, cond, nat_eq, List, [], ◌∷◌, ◌++◌, Option, None, Some, is_some, refl}
use Rattle.std.specs.Option.{option_map}
use Rattle.std.proofs.Common.{sym, ◌∙◌, ap, subst, inl, inr, eq-eqb}
use Rattle.std.proofs.lemmas.Bool.{cases_Bool, false≢true, true≢false}
use Rattle.rev_items.specs.Plain.{PlainItem}
use Rattle.rev_items.specs.Hash.{hash_of}
use Rattle.rev_model.specs.Chunk.{same_chunk}
use Rattle.rev_model.specs.Lists.{has}
use Rattle.rev_model.specs.State.{State, item_at, find, owner_of, queue_number}
use Rattle.rev_model.specs.Words.{queue_with}
use Rattle.rev_model.specs.Move.{Move, Takes, Puts, Fills, Touches, Binds, Unbinds, Lays, Lifts, Counts, Sets, BumpsIn, BumpsBack, BumpsOut, BumpsFront, Shifts, MarksIn, MarksOut, LeadsBack}
use Rattle.rev_model.specs.Actor.{Step, step}
use Rattle.rev_model.specs.Causes.{step_removals}
use Rattle.rev_model.specs.Sound.{Sound}
use Rattle.rev_model.specs.Track.{held, same_key, has_key, is_chunk, keyed, first_note, more_notes, shift_change, class_queue_in, key_place_at, key_place_of, chunk_of, class_queue_before, key_change, leads_or, key_place_from, key_place_before, removals}
use Rattle.rev_model.proofs.Track.{SoundKeys, first_removal}
use Rattle.rev_model.proofs.Undo.{tells_chunk, same_chunk-self}
use Rattle.rev_model.proofs.Laws.{same_key-exact, Agrees, home-is}
use Rattle.rev_model.proofs.Place.{key_item, agrees, place_before}
use Rattle.rev_model.proofs.Notes.{noted-is}
use Rattle.rev_model.specs.Events.{is_key, stored_key, event, event_by, moved_event, cause_of}
use Rattle.rev_model.proofs.Walks.{step_caused}
use Rattle.rev_model.specs.declared.Cause.{Cause}
use Rattle.rev_model.specs.declared.ChunkRef.{ChunkRef}
use Rattle.rev_model.specs.declared.ClassQueue.{ClassQueue}
use Rattle.rev_model.specs.declared.Entry.TheVariants.{Chunk, Mark}
use Rattle.rev_model.specs.declared.EventKind.TheVariants as kind
use Rattle.rev_model.specs.declared.KeyChange.{KeyChange}
use Rattle.rev_model.specs.declared.KeyPlace.{KeyPlace}
use Rattle.rev_model.specs.declared.Listed.TheVariants.{InFree, InQueue}
use Rattle.rev_model.specs.declared.Outcome.{Outcome}
use Rattle.rev_model.specs.declared.Placed.TheVariants.{ToFree, ToQueue}
use Rattle.rev_inverse.specs.Record.{PlainRecord}
use Rattle.rev_edits.proofs.Seats.{item_stands}
use Rattle.rev_tree.specs.Named.{none_or, hashed, named, stored_keys, note_of}
use Rattle.rev_tree.proofs.Named.{is_named}

-- ---- a step and its record

pub sound_keys : (s : State) → Sound s → SoundKeys s
sound_keys s sound = record {
  well = sound.well;
  indexed = sound.filed.keyed;
  queued = λ x i e. (owner_of s x.page, queue_with s (owner_of s x.page) x, (item_stands None s sound x i e).there);
}

-- e led from s to t and answered o, and r leads back
pub record Recalled (s t : State) (e : Step) (o : Outcome) (r : PlainRecord) : Type 0 where
  pub before : Sound s
  pub sound : Sound t
  pub stepped : t ≡ (step s e).0
  pub answered : o ≡ (step s e).1
  pub leads : LeadsBack r.moves t s
  pub told : removals r.moves r.notes t ≡ step_removals s e

-- ---- what the record tells of a key

abbrev value : Option Cause → Option (Option Cause) → Option Cause
value d None = d
value d (Some n) = n

some_same : (m n : Option Cause) → Some m ≡ Some n → m ≡ n
some_same m n e = ap (value m) e

no_place : (u : State) (p : Option ChunkRef) → key_place_at u p ≡ None → p ≡ None
no_place u None f = refl
no_place u (Some x) f = absurd (true≢false (ap is_some f))

some_place : (u : State) (p : Option ChunkRef) → is_some (key_place_at u p) ≡ true → is_some p ≡ true
some_place u None f = absurd (false≢true f)
some_place u (Some x) f = refl

event_noted : (b : Bool) (before after : Option KeyPlace) (c n : Option Cause) → (after ≡ None → is_some before ≡ true → c ≡ n) → event_by b before after c ≡ event_by b before after n
event_noted true before after c n f = refl
event_noted false None after c n f = refl
event_noted false (Some p) (Some q) c n f = refl
event_noted false (Some p) None c n f = ap (option_map (λ c. kind.Left c)) (f refl refl)

module _ (k : List ℕ) (s t : State) (e : Step) (o : Outcome) (r : PlainRecord) (h : Recalled s t e o r) where
  -- where the key is before the step, by the record
  pub was_at : key_place_of s k ≡ key_place_before k r.moves r.notes (key_place_of t k)
  was_at = ap (λ u. key_place_of u k) (sym h.leads.there) ∙ place_before k r.moves r.notes t (sound_keys t h.sound) h.leads.fits

  pub leads_to : find t k ≡ None → find s k ≡ leads_or None (key_change k None r.moves r.notes)
  leads_to none =
      subst (λ u. find u k ≡ leads_or None (key_change k None r.moves r.notes)) h.leads.there
      (home-is k None r.moves r.notes t (agrees t (sound_keys t h.sound) k None none) none)

  -- the cause of a key that left
  abbrev pub Gone : Option Cause → Type 0
  Gone n = (c : Cause) × (n ≡ Some c) × (cause_of s e k ≡ Some c)

  pub cause_told : find t k ≡ None → (x : ChunkRef) (n : Option Cause) → key_change k None r.moves r.notes ≡ Some (record { leads = Some x; note = n }) → find s k ≡ Some x → Gone n
  cause_told none x n turn was =
      let first : first_removal k (removals r.moves r.notes t) ≡ Some n = noted-is k r.moves r.notes t (agrees t (sound_keys t h.sound) k None none) none h.leads.fits x n turn in
      let gone : held (step s e).0 k ≡ false = ap (λ u. held u k) (sym h.stepped) ∙ ap is_some none in
      let caused = step_caused s h.before e k (ap is_some was) gone in
      (caused.by, some_same n (Some caused.by) (sym first ∙ ap (first_removal k) h.told ∙ caused.told), caused.is)

  noted_at : find t k ≡ None → is_some (find s k) ≡ true → (l : Option ChunkRef) (n : Option Cause) → key_change k None r.moves r.notes ≡ Some (record { leads = l; note = n }) → cause_of s e k ≡ n
  noted_at none was None n turn = absurd (false≢true (sym (ap is_some (leads_to none ∙ ap (leads_or None) turn)) ∙ was))
  noted_at none was (Some x) n turn =
      let g = cause_told none x n turn (leads_to none ∙ ap (leads_or None) turn) in
      g.2 ∙ sym g.1

  noted : find t k ≡ None → is_some (find s k) ≡ true → (u : Option KeyChange) → key_change k None r.moves r.notes ≡ u → cause_of s e k ≡ note_of u
  noted none was None turn = absurd (false≢true (sym (ap is_some (leads_to none ∙ ap (leads_or None) turn)) ∙ was))
  noted none was (Some u) turn = noted_at none was u.leads u.note turn

  -- the event, by the record and where the key is after the step
  pub tells_at : (after : Option KeyPlace) → after ≡ key_place_of t k → event s e k ≡ event_by (is_key k (stored_key e o)) (key_place_before k r.moves r.notes after) after (note_of (key_change k (chunk_of after) r.moves r.notes))
  tells_at after a =
      let there : key_place_of (step s e).0 k ≡ after = ap (λ u. key_place_of u k) (sym h.stepped) ∙ sym a in
      let was : key_place_of s k ≡ key_place_before k r.moves r.notes after = was_at ∙ ap (key_place_before k r.moves r.notes) (sym a) in
      ap (λ p. event_by (is_key k (stored_key e p)) (key_place_of s k) (key_place_of (step s e).0 k) (cause_of s e k)) (sym h.answered)
      ∙ ap (λ p. event_by (is_key k (stored_key e o)) p (key_place_of (step s e).0 k) (cause_of s e k)) was
      ∙ ap (λ p. event_by (is_key k (stored_key e o)) (key_place_before k r.moves r.notes after) p (cause_of s e k)) there
      ∙ event_noted (is_key k (stored_key e o)) (key_place_before k r.moves r.notes after) after (cause_of s e k) (note_of (key_change k (chunk_of after) r.moves r.notes))
      (λ none some.
      let gone : find t k ≡ None = no_place t (find t k) (sym a ∙ none) in
      let had : is_some (find s k) ≡ true = some_place s (find s k) (ap is_some was ∙ some) in
      noted gone had (key_change k None r.moves r.notes) refl ∙ ap (λ p. note_of (key_change k (chunk_of p) r.moves r.notes)) (sym none))

-- ---- lists of hashes that lack one

-- the list lacks this number
abbrev Lacks : ℕ → List ℕ → Type 0
Lacks n l = has nat_eq n l ≡ false

lacks_both : (n : ℕ) (xs ys : List ℕ) → Lacks n (xs ++ ys) → Lacks n xs × Lacks n ys
lacks_both n [] ys h = (refl, h)
lacks_both n (x ∷ xs) ys h = elim (cases_Bool (nat_eq n x)) [
  | inl e ↦ absurd (true≢false (rw e at h))
  | inr e ↦ let both : Lacks n xs × Lacks n ys = lacks_both n xs ys (rw e at h) in (rw e both.0, both.1)
]

has_one : (n : ℕ) → has nat_eq n (n ∷ []) ≡ true
has_one n = ap (λ b. cond b true false) (eq-eqb n n refl)

same_named : (k l : List ℕ) → k ≡ l → has nat_eq (hash_of k) (hash_of l ∷ []) ≡ true
same_named k l e = subst (λ m. has nat_eq (hash_of k) (hash_of m ∷ []) ≡ true) e (has_one (hash_of k))

-- an item whose hash is not the key's does not have the key
lacks_key : (k : List ℕ) (o : Option PlainItem) → Lacks (hash_of k) (hashed o) → has_key k o ≡ false
lacks_key k o h = elim (cases_Bool (has_key k o)) [
  | inl e ↦ let w = key_item k o e in
      absurd (true≢false (sym (same_named k w.0.key w.2) ∙ sym (ap (λ p. has nat_eq (hash_of k) (hashed p)) w.1) ∙ h))
  | inr e ↦ e
]

-- where the test fails
second : {X : Type 0} → (b : Bool) → b ≡ false → (v w : X) → cond b v w ≡ w
second b e v w = ap (λ c. cond c v w) e

-- ---- moves that do not name the key

module _ (k : List ℕ) (home : Option ChunkRef) (t : State) (a : Agrees k home t) where
  -- none of these hashes is the key's
  abbrev Quiet : List ℕ → Type 0
  Quiet l = Lacks (hash_of k) l

  -- the hashes of a move that concerns one chunk, and those of the moves behind it
  one_chunk : (y : ChunkRef) (ms : List Move) → Quiet (hashed (item_at t y) ++ named t ms) → Quiet (hashed (item_at t y)) × Quiet (named t ms)
  one_chunk y ms h = lacks_both (hash_of k) (hashed (item_at t y)) (named t ms) h

  -- the same, with others before the chunk's
  and_chunk : (l : List ℕ) (y : ChunkRef) (ms : List Move) → Quiet ((l ++ hashed (item_at t y)) ++ named t ms) → Quiet l × Quiet (hashed (item_at t y)) × Quiet (named t ms)
  and_chunk l y ms h =
      let parts = lacks_both (hash_of k) (l ++ hashed (item_at t y)) (named t ms) h in
      let two = lacks_both (hash_of k) l (hashed (item_at t y)) parts.0 in
      (two.0, two.1, parts.1)

  -- a chunk that the moves concern is not the key's
  elsewhere : (y : ChunkRef) → Quiet (hashed (item_at t y)) → is_chunk home y ≡ false
  elsewhere y h = sym (a y) ∙ lacks_key k (item_at t y) h

  -- the key's chunk is another
  apart : (x y : ChunkRef) → is_chunk home x ≡ true → Quiet (hashed (item_at t y)) → same_chunk x y ≡ false
  apart x y at h = elim (cases_Bool (same_chunk x y)) [
    | inl e ↦ absurd (true≢false (sym at ∙ ap (is_chunk home) (tells_chunk.exact x y e) ∙ elsewhere y h))
    | inr e ↦ e
  ]

  -- what the moves leave: the key with its chunk, its index entry, and its chunk's queue
  abbrev Keyed : List Move → Type 0
  Keyed ms = (x : ChunkRef) → keyed k home ms x ≡ is_chunk home x

  abbrev Unchanged : List Move → Type 0
  Unchanged ms = (ns : List (Option Cause)) → key_change k home ms ns ≡ None

  abbrev Queued : List Move → Type 0
  Queued ms = (lru : Option ClassQueue) (x : ChunkRef) → is_chunk home x ≡ true → class_queue_before home lru ms x ≡ lru

  abbrev Still : List Move → Type 0
  Still ms = Keyed ms × Unchanged ms × Queued ms

  fill_keyed : (y : ChunkRef) (o : Option PlainItem) (ms : List Move) → Quiet (hashed o) → Quiet (hashed (item_at t y)) → Keyed ms → Keyed (Fills y o ∷ ms)
  fill_keyed y o ms new old u x = elim (cases_Bool (same_chunk x y)) [
    | inl e ↦ rw e (lacks_key k o new ∙ sym (elsewhere y old) ∙ ap (is_chunk home) (sym (tells_chunk.exact x y e)))
    | inr e ↦ rw e (u x)
  ]

  shift_keyed : (y z : ChunkRef) (ms : List Move) → Quiet (hashed (item_at t y)) → Quiet (hashed (item_at t z)) → Keyed ms → Keyed (Shifts y z ∷ ms)
  shift_keyed y z ms from to u x = elim (cases_Bool (same_chunk x z)) [
    | inl e ↦ rw e (u y ∙ elsewhere y from ∙ sym (elsewhere z to) ∙ ap (is_chunk home) (sym (tells_chunk.exact x z e)))
    | inr e ↦ elim (cases_Bool (same_chunk x y)) [
      | inl g ↦ rw (e, g) (sym (elsewhere y from) ∙ ap (is_chunk home) (sym (tells_chunk.exact x y g)))
      | inr g ↦ rw (e, g) (u x)
    ]
  ]

  -- a move that binds, unbinds or shifts such a chunk changes nothing of the key
  passes_by : (y : ChunkRef) (ms : List Move) → Quiet (hashed (item_at t y)) → Still ms → (ns : List (Option Cause)) (c : KeyChange) → cond (keyed k home ms y) (Some c) (key_change k home ms (more_notes ns)) ≡ None
  passes_by y ms h u ns c = second (keyed k home ms y) (u.0 y ∙ elsewhere y h) (Some c) (key_change k home ms (more_notes ns)) ∙ u.1 (more_notes ns)

  -- a move of such a chunk leaves the queue of the key's
  stays : (y : ChunkRef) → Quiet (hashed (item_at t y)) → (x : ChunkRef) → is_chunk home x ≡ true → (v w : Option ClassQueue) → cond (same_chunk x y) v w ≡ w
  stays y h x at v w = second (same_chunk x y) (apart x y at h) v w

  -- a move that concerns no chunk leaves it all
  passed : (ms : List Move) → Still ms → Keyed ms × ((ns : List (Option Cause)) → key_change k home ms (more_notes ns) ≡ None) × Queued ms
  passed ms u = (u.0, λ ns. u.1 (more_notes ns), u.2)

  -- by induction over the moves
  still : (ms : List Move) → Quiet (named t ms) → Still ms
  still [] h = (λ x. refl, λ ns. refl, λ lru x at. ap (λ b. cond b lru None) at)
  still (Takes (InQueue c q (Chunk y)) ∷ ms) h =
      let parts = one_chunk y ms h in
      let u : Still ms = still ms parts.1 in
      (u.0, λ ns. u.1 (more_notes ns), λ lru x at. stays y parts.0 x at None (class_queue_before home lru ms x) ∙ u.2 lru x at)
  still (Puts (ToQueue c q (Chunk y) b) ∷ ms) h =
      let parts = one_chunk y ms h in
      let u : Still ms = still ms parts.1 in
      (u.0, λ ns. u.1 (more_notes ns), λ lru x at. stays y parts.0 x at (Some (record { class = c; queue = q })) (class_queue_before home lru ms x) ∙ u.2 lru x at)
  still (Fills y o ∷ ms) h =
      let parts = and_chunk (hashed o) y ms h in
      let u : Still ms = still ms parts.2 in
      (fill_keyed y o ms parts.0 parts.1 u.0, λ ns. u.1 (more_notes ns), λ lru x at. stays y parts.1 x at None (class_queue_before home lru ms x) ∙ u.2 lru x at)
  still (Shifts y z ∷ ms) h =
      let parts = and_chunk (hashed (item_at t y)) z ms h in
      let u : Still ms = still ms parts.2 in (
        shift_keyed y z ms parts.0 parts.1 u.0,
        λ ns. passes_by y ms parts.0 u ns (shift_change z (key_change k home ms (more_notes ns))),
        λ lru x at. stays z parts.1 x at (class_queue_before home lru ms y) (cond (same_chunk x y) None (class_queue_before home lru ms x)) ∙ stays y parts.0 x at None (class_queue_before home lru ms x) ∙ u.2 lru x at,
      )
  still (Binds y ∷ ms) h =
      let parts = one_chunk y ms h in
      let u : Still ms = still ms parts.1 in
      (u.0, λ ns. passes_by y ms parts.0 u ns (record { leads = Some y; note = first_note ns }), u.2)
  still (Unbinds y ∷ ms) h =
      let parts = one_chunk y ms h in
      let u : Still ms = still ms parts.1 in
      (u.0, λ ns. passes_by y ms parts.0 u ns (record { leads = None; note = first_note ns }), u.2)
  still (Takes (InFree c y) ∷ ms) h = passed ms (still ms h)
  still (Takes (InQueue c q Mark) ∷ ms) h = passed ms (still ms h)
  still (Puts (ToFree c y b) ∷ ms) h = passed ms (still ms h)
  still (Puts (ToQueue c q Mark b) ∷ ms) h = passed ms (still ms h)
  still (Touches y v ∷ ms) h = passed ms (still ms h)
  still (Lays p c n f ∷ ms) h = passed ms (still ms h)
  still (Lifts p f ∷ ms) h = passed ms (still ms h)
  still (Counts c j v ∷ ms) h = passed ms (still ms h)
  still (Sets g ∷ ms) h = passed ms (still ms h)
  still (BumpsIn b ∷ ms) h = passed ms (still ms h)
  still (BumpsBack ∷ ms) h = passed ms (still ms h)
  still (BumpsOut ∷ ms) h = passed ms (still ms h)
  still (BumpsFront b ∷ ms) h = passed ms (still ms h)
  still (MarksIn set ∷ ms) h = passed ms (still ms h)
  still (MarksOut set ∷ ms) h = passed ms (still ms h)

-- so the record tells no change of the key, and the same place before the step
still_place : (k : List ℕ) (t : State) (home : Option ChunkRef) → Agrees k home t → (ms : List Move) (ns : List (Option Cause)) → Lacks (hash_of k) (named t ms)
    → (key_change k (chunk_of (key_place_at t home)) ms ns ≡ None) × (key_place_before k ms ns (key_place_at t home) ≡ key_place_at t home)
still_place k t None a ms ns h =
    let u = (still k None t a ms h).1 ns in
    (u, ap (λ c. key_place_from None None ms (leads_or None c)) u)
still_place k t (Some x) a ms ns h =
    let w = still k (Some x) t a ms h in
    let lru = class_queue_in t x in (
      w.1 ns,
      ap (λ c. key_place_from (Some x) lru ms (leads_or (Some x) c)) (w.1 ns) ∙ ap (λ l. Some (record { chunk = x; lru = l })) (w.2 lru x (same_chunk-self x)),
    )

-- ---- commands that do not store the key

not_stored : (k : List ℕ) (l : Option (List ℕ)) → Lacks (hash_of k) (none_or (option_map hash_of l)) → is_key k l ≡ false
not_stored k None h = refl
not_stored k (Some l) h = go (same_key k l) refl where
  go : (b : Bool) → same_key k l ≡ b → b ≡ false
  go false e = refl
  go true e = absurd (true≢false (sym (same_named k l (same_key-exact k l e)) ∙ h))

-- ---- the key stays as it was

same_queue : (q : Option ClassQueue) → moved_event q q ≡ None
same_queue None = refl
same_queue (Some p) = ap (λ b. cond b None (Some (kind.Moved p.queue p.queue))) (eq-eqb (queue_number p.queue) (queue_number p.queue) refl)

no_event : (p : Option KeyPlace) → event_by false p p None ≡ None
no_event None = refl
no_event (Some p) = same_queue p.lru

-- what is not named by a step's record, nor stored by the step, keeps its place and tells no event
pub unnamed_still : (s t : State) (e : Step) (o : Outcome) (r : PlainRecord) → Recalled s t e o r → (k : List ℕ) → is_named (hash_of k) t e o r.moves ≡ false → (event s e k ≡ None) × (key_place_of s k ≡ key_place_of t k)
unnamed_still s t e o r h k f =
    let parts : Lacks (hash_of k) (stored_keys e o) × Lacks (hash_of k) (named t r.moves) = lacks_both (hash_of k) (stored_keys e o) (named t r.moves) f in
    let w = still_place k t (find t k) (agrees t (sound_keys t h.sound) k (find t k) refl) r.moves r.notes parts.1 in (
      tells_at k s t e o r h (key_place_of t k) refl
          ∙ ap (λ b. event_by b (key_place_before k r.moves r.notes (key_place_of t k)) (key_place_of t k) (note_of (key_change k (chunk_of (key_place_of t k)) r.moves r.notes))) (not_stored k (stored_key e o) parts.0)
          ∙ ap (λ p. event_by false p (key_place_of t k) (note_of (key_change k (chunk_of (key_place_of t k)) r.moves r.notes))) w.1
          ∙ ap (λ c. event_by false (key_place_of t k) (key_place_of t k) (note_of c)) w.0
          ∙ no_event (key_place_of t k),
      was_at k s t e o r h ∙ w.1,
    )
