-- Where an item of a sound store stands.
use Rattle.std.specs.Prelude.{ℕ, ◌≡◌, ◌+◌, ◌≤◌, true, false, List, [], ◌∷◌, Option, Some, is_some, slice_index_or, refl, zero, suc}
use Rattle.std.specs.List.{sum_by}
use Rattle.std.proofs.Common.{sym, ◌∙◌, ap, subst, arith, inl, inr}
use Rattle.std.proofs.lemmas.Bool.{cases_Bool, true≢false}
use Rattle.std.proofs.lemmas.List.Sums.{sum_by-cons}
use Rattle.rev_items.specs.Plain.{PlainItem}
use Rattle.rev_model.specs.Chunk.{same_entry}
use Rattle.rev_model.specs.Lists.{has, count}
use Rattle.rev_model.specs.State.{State, queue_of, queue_place, owner_of, item_at, IsClass}
use Rattle.rev_model.specs.declared.ChunkRef.{ChunkRef}
use Rattle.rev_model.specs.declared.Entry.{Entry}
use Rattle.rev_model.specs.declared.Entry.TheVariants.{Chunk}
use Rattle.rev_model.specs.declared.Queue.{Queue}
use Rattle.rev_model.specs.declared.Queue.TheVariants.{Hot, Warm, Cold, Temp}
use Rattle.rev_model.specs.Words.{queue_with}
use Rattle.rev_model.specs.Sound.{SoundBut, Stands}
use Rattle.rev_model.proofs.Places.{queue_in, free_in}

-- an entry that a table counts stands in one of its lists
pub some_place : (e : Entry) (table : List (List Entry)) → 1 ≤ sum_by (count same_entry e) table → (n : ℕ) × (has same_entry e (slice_index_or table n []) ≡ true)
some_place e [] h = absurd (omega (arith, h))
some_place e (l ∷ ls) h = elim (cases_Bool (has same_entry e l)) [
  | inl f ↦ (0, f)
  | inr f ↦
      let none : count same_entry e l ≡ 0 = no_count l f in
      let more : 1 ≤ sum_by (count same_entry e) ls = omega (arith, none, rw (sum_by-cons (count same_entry e) l ls) at h) in
      let w = some_place e ls more in
      (suc w.0, w.1)
]
  where
    no_count : (ys : List Entry) → has same_entry e ys ≡ false → count same_entry e ys ≡ 0
    no_count [] k = refl
    no_count (z ∷ zs) k = elim (cases_Bool (same_entry e z)) [
      | inl g ↦ absurd (true≢false (rw g at k))
      | inr g ↦ let more : count same_entry e zs ≡ 0 = no_count zs (rw g at k) in rw g (omega (arith, more))
    ]

-- each place is a queue of a class
pub place_parts : (n : ℕ) → (c : ℕ) × ((q : Queue) × (n ≡ queue_place c q))
place_parts zero = (0, (Hot, refl))
place_parts (suc n) = next n (place_parts n).0 (place_parts n).1.0 (place_parts n).1.1
  where
    next : (n c : ℕ) (q : Queue) → n ≡ queue_place c q → (d : ℕ) × ((p : Queue) × (suc n ≡ queue_place d p))
    next n c Hot e = (c, (Warm, omega (arith, e)))
    next n c Warm e = (c, (Cold, omega (arith, e)))
    next n c Cold e = (c, (Temp, omega (arith, e)))
    next n c Temp e = (c + 1, (Hot, omega (arith, e)))

-- the queue that is told is that in which the chunk stands
told : (s : State) (c : ℕ) (x : ChunkRef) (q : Queue) → has same_entry (Chunk x) (queue_of s c q) ≡ true → has same_entry (Chunk x) (queue_of s c (queue_with s c x)) ≡ true
told s c x q h = elim (cases_Bool (has same_entry (Chunk x) (queue_of s c Hot))) [
  | inl e ↦ rw (e, e) refl
  | inr e ↦ rw e (elim (cases_Bool (has same_entry (Chunk x) (queue_of s c Warm))) [
    | inl f ↦ rw (f, f) refl
    | inr f ↦ rw f (elim (cases_Bool (has same_entry (Chunk x) (queue_of s c Cold))) [
      | inl g ↦ rw (g, g) refl
      | inr g ↦ rw g (last q h e f g)
    ])
  ])
]
  where
    last : (q : Queue) → has same_entry (Chunk x) (queue_of s c q) ≡ true → has same_entry (Chunk x) (queue_of s c Hot) ≡ false → has same_entry (Chunk x) (queue_of s c Warm) ≡ false → has same_entry (Chunk x) (queue_of s c Cold) ≡ false → has same_entry (Chunk x) (queue_of s c Temp) ≡ true
    last Hot h e f g = absurd (true≢false (sym h ∙ e))
    last Warm h e f g = absurd (true≢false (sym h ∙ f))
    last Cold h e f g = absurd (true≢false (sym h ∙ g))
    last Temp h e f g = h

pub owner_class : (h : Option ChunkRef) (s : State) → SoundBut h s → (x : ChunkRef) (i : PlainItem) → item_at s x ≡ Some i → IsClass s.fixed (owner_of s x.page)
owner_class h s sound x i e =
    let k = (sound.well.filled.items x (ap is_some e)).0 in
    (k.class, sound.well.owned.owners x.page)

pub item_stands : (h : Option ChunkRef) (s : State) → SoundBut h s → (x : ChunkRef) (i : PlainItem) → item_at s x ≡ Some i → Stands s (owner_of s x.page) (queue_with s (owner_of s x.page) x) x i
item_stands h s sound x i e =
    let class = owner_class h s sound x i e in
    let n : sum_by (count same_entry (Chunk x)) s.queues ≡ 1 = sound.filed.queued x i e in
    let w = some_place (Chunk x) s.queues (omega (arith, n)) in
    let p = place_parts w.0 in
    let there : has same_entry (Chunk x) (queue_of s p.0 p.1.0) ≡ true = ap (λ k. has same_entry (Chunk x) (slice_index_or s.queues k [])) (sym p.1.1) ∙ w.1 in
    let owned : owner_of s x.page ≡ p.0 = (sound.well.lists.queued_of_class p.0 p.1.0 x there).owned in
    record {
      place = queue_in s sound.well (owner_of s x.page) class (queue_with s (owner_of s x.page) x);
      class = free_in s sound.well (owner_of s x.page) class;
      there = told s (owner_of s x.page) x p.1.0 (subst (λ c. has same_entry (Chunk x) (queue_of s c p.1.0) ≡ true) (sym owned) there);
      item = e;
      key = sound.filed.keyed x i e;
    }
