-- The places of a class lie within the tables, and what is read of a sound store.
use Rattle.std.specs.Prelude.{ℕ, ◌≡◌, ◌<◌, true, List, [], ◌∷◌, Option, None, Some, is_some, length, refl}
use Rattle.std.specs.Option.{option_map}
use Rattle.std.proofs.Common.{◌∙◌, arith, inl, inr}
use Rattle.std.proofs.lemmas.Bool.{cases_Bool}
use Rattle.rev_items.specs.Plain.{PlainItem}
use Rattle.rev_model.specs.Chunk.{same_entry}
use Rattle.rev_model.specs.Lists.{has}
use Rattle.rev_model.proofs.Undo.{tells_chunk}
use Rattle.rev_model.specs.State.{State, WellFormed, queue_of, queue_place, queue_number, counter_place, counter_number, item_at, IsClass}
use Rattle.rev_model.specs.declared.ChunkRef.{ChunkRef}
use Rattle.rev_model.specs.declared.Entry.{Entry}
use Rattle.rev_model.specs.declared.Entry.TheVariants.{Chunk, Mark}
use Rattle.rev_model.specs.declared.Queue.{Queue}
use Rattle.rev_model.specs.declared.Queue.TheVariants.{Hot, Warm, Cold, Temp}
use Rattle.rev_model.specs.declared.Counter.{Counter}
use Rattle.rev_model.specs.declared.Counter.TheVariants.{Evicted, Reclaimed, CrawlerReclaimed, OutOfMemory, MovesToCold, MovesToWarm, MovesWithinLru}
use Rattle.rev_model.specs.Words.{tail, later, header_of}
use Rattle.rev_model.specs.Sound.{SoundBut, Stands}
use Rattle.rev_model.specs.declared.ItemHeader.{ItemHeader}

number_below : (q : Queue) → queue_number q < 4
number_below Hot = omega arith
number_below Warm = omega arith
number_below Cold = omega arith
number_below Temp = omega arith

counter_below : (k : Counter) → counter_number k < 7
counter_below Evicted = omega arith
counter_below Reclaimed = omega arith
counter_below CrawlerReclaimed = omega arith
counter_below OutOfMemory = omega arith
counter_below MovesToCold = omega arith
counter_below MovesToWarm = omega arith
counter_below MovesWithinLru = omega arith

pub queue_in : (s : State) → WellFormed s → (c : ℕ) → IsClass s.fixed c → (q : Queue) → queue_place c q < length s.queues
queue_in s well c h q = omega (arith, well.lists.queues_length, h.1, number_below q)

pub counter_in : (s : State) → WellFormed s → (c : ℕ) → IsClass s.fixed c → (k : Counter) → counter_place c k < length s.counters
counter_in s well c h k = omega (arith, well.counters, h.1, counter_below k)

pub free_in : (s : State) → WellFormed s → (c : ℕ) → IsClass s.fixed c → c < length s.free
free_in s well c h = omega (arith, well.lists.free_length, h.1)

some_inj : {X : Type 0} (x y : X) → Some x ≡ Some y → x ≡ y
some_inj x y e = cc

-- the tail stands in the list
pub tail_there : (es : List Entry) (x : ChunkRef) → tail es ≡ Some x → has same_entry (Chunk x) es ≡ true
tail_there [] x e = absurd (cc)
tail_there (d ∷ es) x e = elim (tail es) as (λ t. tail es ≡ t → later t d ≡ Some x → has same_entry (Chunk x) (d ∷ es) ≡ true) [
  | None ↦ λ p h. late d es x h
  | Some y ↦ λ p h. elim (cases_Bool (same_entry (Chunk x) d)) [
    | inl f ↦ rw f refl
    | inr f ↦ rw f (tail_there es x (p ∙ h))
  ]
] refl e
  where
    late : (d : Entry) (es : List Entry) (x : ChunkRef) → later None d ≡ Some x → has same_entry (Chunk x) (d ∷ es) ≡ true
    late (Chunk y) es x h = rw (some_inj y x h) (rw (tells_chunk.self x) refl)
    late Mark es x h = absurd (cc)

-- what a header_of tells
pub glanced : (o : Option PlainItem) (g : ItemHeader) → option_map header_of o ≡ Some g → (i : PlainItem) × (o ≡ Some i) × (header_of i ≡ g)
glanced None g e = absurd (cc)
glanced (Some i) g e = (i, refl, some_inj (header_of i) g e)

-- the tail of a queue of a sound store
pub tail_stands : (s : State) (h : Option ChunkRef) → SoundBut h s → (c : ℕ) → IsClass s.fixed c → (q : Queue) (x : ChunkRef) → tail (queue_of s c q) ≡ Some x → (i : PlainItem) × Stands s c q x i
tail_stands s h sound c class q x e =
    let there = tail_there (queue_of s c q) x e in
    let some = some_of (item_at s x) (sound.well.filled.queued_items (queue_place c q) x there) in
    (some.0, record { place = queue_in s sound.well c class q; class = free_in s sound.well c class; there = there; item = some.1; key = sound.filed.keyed x some.0 some.1 })
  where
    some_of : (o : Option PlainItem) → is_some o ≡ true → (i : PlainItem) × (o ≡ Some i)
    some_of None h = absurd (cc)
    some_of (Some i) h = (i, refl)
