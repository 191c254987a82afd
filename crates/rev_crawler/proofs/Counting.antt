-- A mark is no chunk: queues in which each chunk stands as often as before keep a store sound.
use Rattle.std.specs.Prelude.{ℕ, ◌≡◌, ◌+◌, ◌<◌, true, cond, List, [], ◌∷◌, ◌++◌, Option, length, slice_set, refl}
use Rattle.std.specs.List.{sum_by}
use Rattle.std.proofs.Common.{◌∙◌, ap, arith}
use Rattle.std.proofs.lemmas.List.Sums.{sum_by-set}
use Rattle.rev_model.specs.Chunk.{same_chunk, same_entry}
use Rattle.rev_model.specs.Lists.{has, count, without}
use Rattle.rev_model.specs.State.{State, queue_of, queue_place}
use Rattle.rev_model.specs.Move.{with_queue}
use Rattle.rev_model.specs.declared.ChunkRef.{ChunkRef}
use Rattle.rev_model.specs.declared.Entry.{Entry}
use Rattle.rev_model.specs.declared.Entry.TheVariants.{Chunk, Mark}
use Rattle.rev_model.specs.declared.Queue.{Queue}
use Rattle.rev_edits.proofs.Rest.{Rest}

-- ---- a mark at the end

pub has-mark_last : (x : ChunkRef) (es : List Entry) → has same_entry (Chunk x) (es ++ Mark ∷ []) ≡ has same_entry (Chunk x) es
has-mark_last x [] = refl
has-mark_last x (e ∷ es) = ap (cond (same_entry (Chunk x) e) true) (has-mark_last x es)

pub count-mark_last : (x : ChunkRef) (es : List Entry) → count same_entry (Chunk x) (es ++ Mark ∷ []) ≡ count same_entry (Chunk x) es
count-mark_last x [] = refl
count-mark_last x (e ∷ es) = ap (λ n. cond (same_entry (Chunk x) e) 1 0 + n) (count-mark_last x es)

pub marks-mark_last : (es : List Entry) → count same_entry Mark (es ++ Mark ∷ []) ≡ count same_entry Mark es + 1
marks-mark_last [] = refl
marks-mark_last (e ∷ es) = let more : count same_entry Mark (es ++ Mark ∷ []) ≡ count same_entry Mark es + 1 = marks-mark_last es in omega (arith, more)

-- ---- without the mark

pub has-mark_out : (x : ChunkRef) (es : List Entry) → has same_entry (Chunk x) (without same_entry Mark es) ≡ has same_entry (Chunk x) es
has-mark_out x [] = refl
has-mark_out x (Chunk y ∷ es) = ap (cond (same_chunk x y) true) (has-mark_out x es)
has-mark_out x (Mark ∷ es) = refl

pub count-mark_out : (x : ChunkRef) (es : List Entry) → count same_entry (Chunk x) (without same_entry Mark es) ≡ count same_entry (Chunk x) es
count-mark_out x [] = refl
count-mark_out x (Chunk y ∷ es) = ap (λ n. cond (same_chunk x y) 1 0 + n) (count-mark_out x es)
count-mark_out x (Mark ∷ es) = omega arith

-- ---- sound stores

pub rest-queues : (h : Option ChunkRef) (s : State) (queues : List (List Entry)) → ((x : ChunkRef) → sum_by (count same_entry (Chunk x)) queues ≡ sum_by (count same_entry (Chunk x)) s.queues) → Rest h s → Rest h (record s { queues = queues })
rest-queues h s queues same sound = record {
  placed = record { once = λ x k. omega (arith, sound.placed.once x k, same x) };
  filed = record {
    queued = λ x i g. same x ∙ sound.filed.queued x i g;
    keyed = sound.filed.keyed;
    class = sound.filed.class;
  };
  kept = sound.kept;
}

-- one queue is another list
pub rest-queue : (h : Option ChunkRef) (s : State) (c : ℕ) (q : Queue) (es : List Entry) → queue_place c q < length s.queues → ((x : ChunkRef) → count same_entry (Chunk x) es ≡ count same_entry (Chunk x) (queue_of s c q)) → Rest h s → Rest h (with_queue s c q es)
rest-queue h s c q es lt same = rest-queues h s (slice_set s.queues (queue_place c q) es) (λ x. omega (arith, sum_by-set (count same_entry (Chunk x)) s.queues (queue_place c q) es [] lt, same x))
