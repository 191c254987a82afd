-- From where a key is after a step and the step's record: where it was before.
use Rattle.std.specs.Prelude.{ℕ, ◌≡◌, ◌<◌, ◌==◌, Bool, true, false, List, [], ◌∷◌, Option, None, Some, length, slice_index_or, refl, zero, suc}
use Rattle.std.proofs.Common.{sym, ◌∙◌, ap, inl, inr, arith, subst, eq-eqb, ne_eqb}
use Rattle.std.proofs.lemmas.Bool.{false≢true, cases_eq}
use Rattle.std.proofs.lemmas.List.{get_or-set_other}
use Rattle.rev_items.specs.Plain.{PlainItem}
use Rattle.rev_model.specs.Chunk.{same_entry}
use Rattle.rev_model.specs.Lists.{has, without}
use Rattle.rev_model.specs.State.{State, WellFormed, item_at, find, owner_of, queue_of, queue_place}
use Rattle.rev_model.specs.Move.{Move, Takes, moved, turned, Fits}
use Rattle.rev_model.proofs.Undo.{tells_chunk, same_chunk-self, entered, turned_well}
use Rattle.rev_model.specs.declared.ChunkRef.{ChunkRef}
use Rattle.rev_model.specs.declared.Entry.{Entry}
use Rattle.rev_model.specs.declared.Entry.TheVariants.{Chunk}
use Rattle.rev_model.specs.declared.Queue.{Queue}
use Rattle.rev_model.specs.declared.Queue.TheVariants.{Hot, Warm, Cold, Temp}
use Rattle.rev_model.specs.declared.Listed.TheVariants.{InQueue}
use Rattle.rev_model.specs.declared.Cause.{Cause}
use Rattle.rev_model.specs.declared.ClassQueue.{ClassQueue}
use Rattle.rev_model.specs.Track.{sits_in, class_queue_within, class_queue_in, key_place_at, key_place_of, same_key, has_key, is_chunk, key_change, leads_or, class_queue_before, chunk_of, class_queue_of, key_place_from, key_place_before}
use Rattle.rev_model.proofs.Track.{SoundKeys}
use Rattle.rev_model.proofs.Laws.{same_key-self, same_key-exact, Agrees, keyed-is, home-is, Sits, nowhere, Starts, lru-is}

-- the queue in which a chunk stands, told by a function of the state

seated_within : (s : State) (x : ChunkRef) (c : ℕ) (q : Queue) → Sits s x (Some (record { class = c; queue = q })) → class_queue_within s x c ≡ Some (record { class = c; queue = q })
seated_within s x c Hot h =
    let a : sits_in s x c Hot ≡ true = h (queue_place c Hot) ∙ eq-eqb (queue_place c Hot) (queue_place c Hot) refl in
    rw a refl
seated_within s x c Warm h =
    let a : sits_in s x c Hot ≡ false = h (queue_place c Hot) ∙ ne_eqb (queue_place c Hot) (queue_place c Warm) (λ e. omega (arith, e)) in
    let b : sits_in s x c Warm ≡ true = h (queue_place c Warm) ∙ eq-eqb (queue_place c Warm) (queue_place c Warm) refl in
    rw (a, b) refl
seated_within s x c Cold h =
    let a : sits_in s x c Hot ≡ false = h (queue_place c Hot) ∙ ne_eqb (queue_place c Hot) (queue_place c Cold) (λ e. omega (arith, e)) in
    let b : sits_in s x c Warm ≡ false = h (queue_place c Warm) ∙ ne_eqb (queue_place c Warm) (queue_place c Cold) (λ e. omega (arith, e)) in
    let d : sits_in s x c Cold ≡ true = h (queue_place c Cold) ∙ eq-eqb (queue_place c Cold) (queue_place c Cold) refl in
    rw (a, b, d) refl
seated_within s x c Temp h =
    let a : sits_in s x c Hot ≡ false = h (queue_place c Hot) ∙ ne_eqb (queue_place c Hot) (queue_place c Temp) (λ e. omega (arith, e)) in
    let b : sits_in s x c Warm ≡ false = h (queue_place c Warm) ∙ ne_eqb (queue_place c Warm) (queue_place c Temp) (λ e. omega (arith, e)) in
    let d : sits_in s x c Cold ≡ false = h (queue_place c Cold) ∙ ne_eqb (queue_place c Cold) (queue_place c Temp) (λ e. omega (arith, e)) in
    let g : sits_in s x c Temp ≡ true = h (queue_place c Temp) ∙ eq-eqb (queue_place c Temp) (queue_place c Temp) refl in
    rw (a, b, d, g) refl

no_seat : (s : State) (x : ChunkRef) (c : ℕ) → Sits s x None → class_queue_within s x c ≡ None
no_seat s x c h =
    let a : sits_in s x c Hot ≡ false = h (queue_place c Hot) in
    let b : sits_in s x c Warm ≡ false = h (queue_place c Warm) in
    let d : sits_in s x c Cold ≡ false = h (queue_place c Cold) in
    let g : sits_in s x c Temp ≡ false = h (queue_place c Temp) in
    rw (a, b, d, g) refl

pub seat_told : (s : State) → WellFormed s → (x : ChunkRef) (o : Option ClassQueue) → Sits s x o → class_queue_in s x ≡ o
seat_told s well x None h = no_seat s x (owner_of s x.page) h
seat_told s well x (Some w) h =
    let own : owner_of s x.page ≡ w.class = (well.lists.queued_of_class w.class w.queue x (h (queue_place w.class w.queue) ∙ eq-eqb (queue_place w.class w.queue) (queue_place w.class w.queue) refl)).owned in
    ap (class_queue_within s x) own ∙ seated_within s x w.class w.queue h

-- a chunk that stands in a queue stands in no other

within_table : (table : List (List Entry)) (n : ℕ) (e : Entry) → has same_entry e (slice_index_or table n []) ≡ true → n < length table
within_table [] n e h = absurd (false≢true h)
within_table (l ∷ ls) zero e h = omega arith
within_table (l ∷ ls) (suc n) e h = let more : n < length ls = within_table ls n e h in omega (arith, more)

pub sits_there : (s : State) → WellFormed s → (c : ℕ) (q : Queue) (x : ChunkRef) → sits_in s x c q ≡ true → Sits s x (Some (record { class = c; queue = q }))
sits_there s well c q x h p =
    let lt : queue_place c q < length s.queues = within_table s.queues (queue_place c q) (Chunk x) h in
    let out : Sits (moved (Takes (InQueue c q (Chunk x))) s) x None = nowhere (moved (Takes (InQueue c q (Chunk x))) s) x (entered s well c q (Chunk x) lt h) in
    elim (cases_eq p (queue_place c q)) [
      | inl e ↦ subst (λ j. has same_entry (Chunk x) (slice_index_or s.queues j []) ≡ (j == queue_place c q)) (sym e) (h ∙ sym (eq-eqb (queue_place c q) (queue_place c q) refl))
      | inr e ↦ ap (has same_entry (Chunk x)) (sym (get_or-set_other s.queues (queue_place c q) p (without same_entry (Chunk x) (queue_of s c q)) [] e)) ∙ out p ∙ sym (ne_eqb p (queue_place c q) e)
    ]

-- in a sound store

agree : (a b : Bool) → (a ≡ true → b ≡ true) → (b ≡ true → a ≡ true) → a ≡ b
agree true true f g = refl
agree true false f g = sym (f refl)
agree false true f g = g refl
agree false false f g = refl

pub key_item : (k : List ℕ) (o : Option PlainItem) → has_key k o ≡ true → (i : PlainItem) × (o ≡ Some i) × (k ≡ i.key)
key_item k None h = absurd (false≢true h)
key_item k (Some i) h = (i, refl, same_key-exact k i.key h)

pub item_of_key : (s : State) → WellFormed s → (k : List ℕ) (x : ChunkRef) → find s k ≡ Some x → has_key k (item_at s x) ≡ true
item_of_key s well k x h =
    let w = well.index.indexed k x h in
    ap (has_key k) w.1 ∙ ap (same_key k) w.2 ∙ same_key-self k

home_item : (s : State) → WellFormed s → (k : List ℕ) (home : Option ChunkRef) → find s k ≡ home → (x : ChunkRef) → is_chunk home x ≡ true → has_key k (item_at s x) ≡ true
home_item s well k None h x e = absurd (false≢true e)
home_item s well k (Some y) h x e = subst (λ v. has_key k (item_at s v) ≡ true) (sym (tells_chunk.exact x y e)) (item_of_key s well k y h)

item_home : (s : State) → SoundKeys s → (k : List ℕ) (home : Option ChunkRef) → find s k ≡ home → (x : ChunkRef) → has_key k (item_at s x) ≡ true → is_chunk home x ≡ true
item_home s sound k home h x e =
    let w = key_item k (item_at s x) e in
    let there : home ≡ Some x = sym h ∙ ap (find s) w.2 ∙ sound.indexed x w.0 w.1 in
    subst (λ o. is_chunk o x ≡ true) (sym there) (same_chunk-self x)

pub agrees : (s : State) → SoundKeys s → (k : List ℕ) (home : Option ChunkRef) → find s k ≡ home → Agrees k home s
agrees s sound k home h x = agree (has_key k (item_at s x)) (is_chunk home x) (item_home s sound k home h x) (home_item s sound.well k home h x)

-- where a held key's chunk stands
pub record HasSeat (s : State) (x : ChunkRef) : Type 0 where
  pub lru : ClassQueue
  pub told : class_queue_in s x ≡ Some lru
  pub sits : Sits s x (Some lru)

pub sound_seat : (s : State) → SoundKeys s → (k : List ℕ) (x : ChunkRef) → find s k ≡ Some x → HasSeat s x
sound_seat s sound k x h =
    let w = sound.well.index.indexed k x h in
    let q = sound.queued x w.0 w.1 in
    let there : Sits s x (Some (record { class = q.0; queue = q.1 })) = sits_there s sound.well q.0 q.1 x q.2 in
    record { lru = record { class = q.0; queue = q.1 }; told = seat_told s sound.well x (Some (record { class = q.0; queue = q.1 })) there; sits = there }

starts_at : (s : State) → SoundKeys s → (k : List ℕ) (home : Option ChunkRef) → find s k ≡ home → Starts home (class_queue_of (key_place_at s home)) s
starts_at s sound k None h x e = absurd (false≢true e)
starts_at s sound k (Some y) h x e =
    let w = sound_seat s sound k y h in
    subst (λ v. Sits s v (class_queue_in s y)) (sym (tells_chunk.exact x y e)) (subst (Sits s y) (sym w.told) w.sits)

chunk_of-spot : (s : State) (o : Option ChunkRef) → chunk_of (key_place_at s o) ≡ o
chunk_of-spot s None = refl
chunk_of-spot s (Some x) = refl

spots : (u : State) (home : Option ChunkRef) (lru : Option ClassQueue) (ms : List Move) (o : Option ChunkRef) → ((x : ChunkRef) → o ≡ Some x → class_queue_in u x ≡ class_queue_before home lru ms x) → key_place_at u o ≡ key_place_from home lru ms o
spots u home lru ms None h = refl
spots u home lru ms (Some x) h = ap (λ w. Some (record { chunk = x; lru = w })) (h x refl)

-- THE LEMMA: where a key was before a step, from where it is after it and the step's record
pub place_before : (k : List ℕ) (ms : List Move) (ns : List (Option Cause)) (t : State) → SoundKeys t → Fits ms t → key_place_of (turned ms t).0 k ≡ key_place_before k ms ns (key_place_of t k)
place_before k ms ns t sound fits =
    let u = (turned ms t).0 in
    let home = find t k in
    let lru = class_queue_of (key_place_at t (find t k)) in
    let well : WellFormed (turned ms t).0 = turned_well ms t sound.well fits in
    let a : Agrees k (find t k) t = agrees t sound k (find t k) refl in
    let led : find (turned ms t).0 k ≡ leads_or (find t k) (key_change k (find t k) ms ns) = home-is k (find t k) ms ns t a refl in
    let seats : (x : ChunkRef) → find (turned ms t).0 k ≡ Some x → class_queue_in (turned ms t).0 x ≡ class_queue_before (find t k) (class_queue_of (key_place_at t (find t k))) ms x =
    λ x e. seat_told u well x (class_queue_before home lru ms x) (lru-is k home lru ms t sound.well fits (starts_at t sound k home refl) x (sym (keyed-is k home ms t a x) ∙ item_of_key u well k x e)) in
    spots u home lru ms (find u k) seats
    ∙ ap (key_place_from home lru ms) led
    ∙ ap (λ h. key_place_from h lru ms (leads_or h (key_change k h ms ns))) (sym (chunk_of-spot t home))
