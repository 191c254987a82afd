-- A record that does not name a key, by what the chunks hold at a state of later: it tells no change of the key. So up
-- over a node whose record and step do not name it, nothing is told of the key, and it stays where it was.
use Rattle.std.specs.Prelude.{ℕ, ◌≡◌, ◌-◌, ◌<◌, Bool, true, false, cond, nat_eq, List, [], ◌∷◌, ◌++◌, Option, None, Some, refl}
use Rattle.std.proofs.Common.{sym, ◌∙◌, ap, eq-eqb, inl, inr}
use Rattle.std.proofs.lemmas.Bool.{cases_Bool, true≢false}
use Rattle.rev_items.specs.Plain.{PlainItem}
use Rattle.rev_items.specs.Hash.{hash_of}
use Rattle.rev_model.specs.Actor.{Step}
use Rattle.rev_model.specs.Chunk.{same_chunk}
use Rattle.rev_model.specs.State.{State, item_at, find, queue_number}
use Rattle.rev_model.specs.Sound.{Sound}
use Rattle.rev_model.specs.Move.{Move, Takes, Puts, Fills, Touches, Binds, Unbinds, Lays, Lifts, Counts, Sets, BumpsIn, BumpsBack, BumpsOut, BumpsFront, Shifts, MarksIn, MarksOut}
use Rattle.rev_model.specs.Track.{is_chunk, keyed, first_note, more_notes, shift_change, class_queue_in, key_place_at, key_place_of, chunk_of, class_queue_before, key_change, leads_or, key_place_from, key_place_before}
use Rattle.rev_model.specs.Events.{stored_key, event_by, moved_event}
use Rattle.rev_model.specs.declared.Cause.{Cause}
use Rattle.rev_model.specs.declared.ChunkRef.{ChunkRef}
use Rattle.rev_model.specs.declared.ClassQueue.{ClassQueue}
use Rattle.rev_model.specs.declared.Entry.TheVariants.{Chunk, Mark}
use Rattle.rev_model.specs.declared.EventKind.TheVariants as kind
use Rattle.rev_model.specs.declared.KeyChange.{KeyChange}
use Rattle.rev_model.specs.declared.KeyPlace.{KeyPlace}
use Rattle.rev_model.specs.declared.Listed.TheVariants.{InFree, InQueue}
use Rattle.rev_model.specs.declared.Outcome.{Outcome}
use Rattle.rev_model.specs.declared.Placed.TheVariants.{ToFree, ToQueue}
use Rattle.rev_model.proofs.Laws.{Agrees}
use Rattle.rev_model.proofs.Place.{agrees}
use Rattle.rev_model.proofs.Undo.{tells_chunk, same_chunk-self}
use Rattle.rev_inverse.specs.Record.{PlainRecord}
use Rattle.rev_tree.specs.Named.{hashed, named, stored_keys}
use Rattle.rev_tree.specs.Positions.{SessionState}
use Rattle.rev_tree.specs.Trails.{Trailed}
use Rattle.rev_undotree.proofs.Recalled.{sound_keys}
use Rattle.rev_explain.proofs.Searches.{Telling, tell_more}
use Rattle.rev_lives.proofs.Lacks.{Lacks, lacks_both, lacks_key, other_key}

-- where the test fails
second : {X : Type 0} → (b : Bool) → b ≡ false → (v w : X) → cond b v w ≡ w
second b e v w = ap (λ c. cond c v w) e

-- ---- moves that do not name the key

module _ (k : List ℕ) (home : Option ChunkRef) (t : State) (a : Agrees k home t) where
  -- none of these hashes is the key's
  abbrev Quiet : List ℕ → Type 0
  Quiet l = Lacks (hash_of k) l

  -- the hashes of a move that concerns one chunk, and those of the moves behind it
  one_chunk : (y : ChunkRef) (ms : List Move) → Quiet (hashed (item_at t y) ++ named t ms) → Quiet (hashed (item_at t y)) × Quiet (named t ms)
  one_chunk y ms h = lacks_both (hash_of k) (hashed (item_at t y)) (named t ms) h

  -- the same, with others before the chunk's
  and_chunk : (l : List ℕ) (y : ChunkRef) (ms : List Move) → Quiet ((l ++ hashed (item_at t y)) ++ named t ms) → Quiet l × Quiet (hashed (item_at t y)) × Quiet (named t ms)
  and_chunk l y ms h =
      let parts = lacks_both (hash_of k) (l ++ hashed (item_at t y)) (named t ms) h in
      let two = lacks_both (hash_of k) l (hashed (item_at t y)) parts.0 in
      (two.0, two.1, parts.1)

  -- a chunk that the moves concern is not the key's
  elsewhere : (y : ChunkRef) → Quiet (hashed (item_at t y)) → is_chunk home y ≡ false
  elsewhere y h = sym (a y) ∙ lacks_key k (item_at t y) h

  -- the key's chunk is another
  apart : (x y : ChunkRef) → is_chunk home x ≡ true → Quiet (hashed (item_at t y)) → same_chunk x y ≡ false
  apart x y at h = elim (cases_Bool (same_chunk x y)) [
    | inl e ↦ absurd (true≢false (sym at ∙ ap (is_chunk home) (tells_chunk.exact x y e) ∙ elsewhere y h))
    | inr e ↦ e
  ]

  -- what the moves leave: the key with its chunk, its index entry, and its chunk's queue
  abbrev Keyed : List Move → Type 0
  Keyed ms = (x : ChunkRef) → keyed k home ms x ≡ is_chunk home x

  abbrev Unchanged : List Move → Type 0
  Unchanged ms = (ns : List (Option Cause)) → key_change k home ms ns ≡ None

  abbrev Queued : List Move → Type 0
  Queued ms = (lru : Option ClassQueue) (x : ChunkRef) → is_chunk home x ≡ true → class_queue_before home lru ms x ≡ lru

  abbrev Still : List Move → Type 0
  Still ms = Keyed ms × Unchanged ms × Queued ms

  fill_keyed : (y : ChunkRef) (o : Option PlainItem) (ms : List Move) → Quiet (hashed o) → Quiet (hashed (item_at t y)) → Keyed ms → Keyed (Fills y o ∷ ms)
  fill_keyed y o ms new old u x = elim (cases_Bool (same_chunk x y)) [
    | inl e ↦ rw e (lacks_key k o new ∙ sym (elsewhere y old) ∙ ap (is_chunk home) (sym (tells_chunk.exact x y e)))
    | inr e ↦ rw e (u x)
  ]

  shift_keyed : (y z : ChunkRef) (ms : List Move) → Quiet (hashed (item_at t y)) → Quiet (hashed (item_at t z)) → Keyed ms → Keyed (Shifts y z ∷ ms)
  shift_keyed y z ms from to u x = elim (cases_Bool (same_chunk x z)) [
    | inl e ↦ rw e (u y ∙ elsewhere y from ∙ sym (elsewhere z to) ∙ ap (is_chunk home) (sym (tells_chunk.exact x z e)))
    | inr e ↦ elim (cases_Bool (same_chunk x y)) [
      | inl g ↦ rw (e, g) (sym (elsewhere y from) ∙ ap (is_chunk home) (sym (tells_chunk.exact x y g)))
      | inr g ↦ rw (e, g) (u x)
    ]
  ]

  -- a move that binds, unbinds or shifts such a chunk changes nothing of the key
  passes_by : (y : ChunkRef) (ms : List Move) → Quiet (hashed (item_at t y)) → Still ms → (ns : List (Option Cause)) (c : KeyChange) → cond (keyed k home ms y) (Some c) (key_change k home ms (more_notes ns)) ≡ None
  passes_by y ms h u ns c = second (keyed k home ms y) (u.0 y ∙ elsewhere y h) (Some c) (key_change k home ms (more_notes ns)) ∙ u.1 (more_notes ns)

  -- a move of such a chunk leaves the queue of the key's
  stays : (y : ChunkRef) → Quiet (hashed (item_at t y)) → (x : ChunkRef) → is_chunk home x ≡ true → (v w : Option ClassQueue) → cond (same_chunk x y) v w ≡ w
  stays y h x at v w = second (same_chunk x y) (apart x y at h) v w

  -- a move that concerns no chunk leaves it all
  passed : (ms : List Move) → Still ms → Keyed ms × ((ns : List (Option Cause)) → key_change k home ms (more_notes ns) ≡ None) × Queued ms
  passed ms u = (u.0, λ ns. u.1 (more_notes ns), u.2)

  -- by induction over the moves
  still : (ms : List Move) → Quiet (named t ms) → Still ms
  still [] h = (λ x. refl, λ ns. refl, λ lru x at. ap (λ b. cond b lru None) at)
  still (Takes (InQueue c q (Chunk y)) ∷ ms) h =
      let parts = one_chunk y ms h in
      let u : Still ms = still ms parts.1 in
      (u.0, λ ns. u.1 (more_notes ns), λ lru x at. stays y parts.0 x at None (class_queue_before home lru ms x) ∙ u.2 lru x at)
  still (Puts (ToQueue c q (Chunk y) b) ∷ ms) h =
      let parts = one_chunk y ms h in
      let u : Still ms = still ms parts.1 in
      (u.0, λ ns. u.1 (more_notes ns), λ lru x at. stays y parts.0 x at (Some (record { class = c; queue = q })) (class_queue_before home lru ms x) ∙ u.2 lru x at)
  still (Fills y o ∷ ms) h =
      let parts = and_chunk (hashed o) y ms h in
      let u : Still ms = still ms parts.2 in
      (fill_keyed y o ms parts.0 parts.1 u.0, λ ns. u.1 (more_notes ns), λ lru x at. stays y parts.1 x at None (class_queue_before home lru ms x) ∙ u.2 lru x at)
  still (Shifts y z ∷ ms) h =
      let parts = and_chunk (hashed (item_at t y)) z ms h in
      let u : Still ms = still ms parts.2 in (
        shift_keyed y z ms parts.0 parts.1 u.0,
        λ ns. passes_by y ms parts.0 u ns (shift_change z (key_change k home ms (more_notes ns))),
        λ lru x at. stays z parts.1 x at (class_queue_before home lru ms y) (cond (same_chunk x y) None (class_queue_before home lru ms x)) ∙ stays y parts.0 x at None (class_queue_before home lru ms x) ∙ u.2 lru x at,
      )
  still (Binds y ∷ ms) h =
      let parts = one_chunk y ms h in
      let u : Still ms = still ms parts.1 in
      (u.0, λ ns. passes_by y ms parts.0 u ns (record { leads = Some y; note = first_note ns }), u.2)
  still (Unbinds y ∷ ms) h =
      let parts = one_chunk y ms h in
      let u : Still ms = still ms parts.1 in
      (u.0, λ ns. passes_by y ms parts.0 u ns (record { leads = None; note = first_note ns }), u.2)
  still (Takes (InFree c y) ∷ ms) h = passed ms (still ms h)
  still (Takes (InQueue c q Mark) ∷ ms) h = passed ms (still ms h)
  still (Puts (ToFree c y b) ∷ ms) h = passed ms (still ms h)
  still (Puts (ToQueue c q Mark b) ∷ ms) h = passed ms (still ms h)
  still (Touches y v ∷ ms) h = passed ms (still ms h)
  still (Lays p c n f ∷ ms) h = passed ms (still ms h)
  still (Lifts p f ∷ ms) h = passed ms (still ms h)
  still (Counts c j v ∷ ms) h = passed ms (still ms h)
  still (Sets g ∷ ms) h = passed ms (still ms h)
  still (BumpsIn b ∷ ms) h = passed ms (still ms h)
  still (BumpsBack ∷ ms) h = passed ms (still ms h)
  still (BumpsOut ∷ ms) h = passed ms (still ms h)
  still (BumpsFront b ∷ ms) h = passed ms (still ms h)
  still (MarksIn set ∷ ms) h = passed ms (still ms h)
  still (MarksOut set ∷ ms) h = passed ms (still ms h)

-- so the record tells no change of the key, and the same place before the step
still_place : (k : List ℕ) (t : State) (home : Option ChunkRef) → Agrees k home t → (ms : List Move) (ns : List (Option Cause)) → Lacks (hash_of k) (named t ms)
    → (key_change k (chunk_of (key_place_at t home)) ms ns ≡ None) × (key_place_before k ms ns (key_place_at t home) ≡ key_place_at t home)
still_place k t None a ms ns h =
    let u = (still k None t a ms h).1 ns in
    (u, ap (λ c. key_place_from None None ms (leads_or None c)) u)
still_place k t (Some x) a ms ns h =
    let w = still k (Some x) t a ms h in
    let lru = class_queue_in t x in (
      w.1 ns,
      ap (λ c. key_place_from (Some x) lru ms (leads_or (Some x) c)) (w.1 ns) ∙ ap (λ l. Some (record { chunk = x; lru = l })) (w.2 lru x (same_chunk-self x)),
    )

-- ---- the key stays as it was

same_queue : (q : Option ClassQueue) → moved_event q q ≡ None
same_queue None = refl
same_queue (Some p) = ap (λ b. cond b None (Some (kind.Moved p.queue p.queue))) (eq-eqb (queue_number p.queue) (queue_number p.queue) refl)

no_event : (p : Option KeyPlace) → event_by false p p None ≡ None
no_event None = refl
no_event (Some p) = same_queue p.lru

-- up over a node that does not name the key, where a state of later has the key in its place
pub tell_unnamed : (v : SessionState) (s : State) (k : List ℕ) (d n : ℕ) (e : Step) (o : Outcome) (r : PlainRecord) → Sound s → Telling v k d (key_place_of s k) [] → 0 < d → Trailed v d n e o r
    → Lacks (hash_of k) (stored_keys e o ++ named s r.moves) → Telling v k (d - 1) (key_place_of s k) []
tell_unnamed v s k d n e o r sound told pos trailed lacks =
    let parts = lacks_both (hash_of k) (stored_keys e o) (named s r.moves) lacks in
    let w = still_place k s (find s k) (agrees s (sound_keys s sound) k (find s k) refl) r.moves r.notes parts.1 in
    tell_more v k d n e o r (key_place_of s k) [] told pos trailed None (sym w.0) (key_place_of s k) (sym w.1) false (sym (other_key k (stored_key e o) parts.0)) None (sym (no_event (key_place_of s k))) [] refl
