-- What a move of a record tells of a key, and what a few do that go together.
-- Rule of this project: a story is read off records, a change at a time.
use Rattle.std.specs.Prelude.{ℕ, Bool, false, cond, List, [], ◌∷◌, Option, None, Some, is_some}
use Rattle.std.proofs.Common.{ControlFlow, Continue, Break}
use Rattle.rev_model.specs.Chunk.{same_chunk}
use Rattle.rev_model.specs.Move.{Move, Takes, Puts, Fills, Sets, Shifts}
use Rattle.rev_model.specs.Track.{has_key, Removal, removal}
use Rattle.rev_inverse.specs.declared.changes.Change as kept
use Rattle.rev_inverse.specs.declared.changes.Change.TheVariants as stored
use Rattle.rev_model.specs.declared.ChunkRef.{ChunkRef}
use Rattle.rev_model.specs.declared.Cause.{Cause}
use Rattle.rev_model.specs.declared.ClassQueue.{ClassQueue}
use Rattle.rev_model.specs.declared.Entry.TheVariants.{Chunk}
use Rattle.rev_model.specs.declared.GlobalPart.TheVariants.{Timing}
use Rattle.rev_model.specs.declared.KeyChange.{KeyChange}
use Rattle.rev_model.specs.declared.Listed.TheVariants.{InQueue}
use Rattle.rev_model.specs.declared.Placed.TheVariants.{ToQueue}
pub use Rattle.rev_tree.specs.Named.{note_of}

-- whether the chunk's item has the key after the move, or else which chunk to ask for before it
abbrev pub keyed_after : List ℕ → Move → ChunkRef → ControlFlow Bool ChunkRef
keyed_after k (Fills y o) x = cond (same_chunk x y) (Break (has_key k o)) (Continue x)
keyed_after k (Shifts a b) x = cond (same_chunk x b) (Continue a) (cond (same_chunk x a) (Break false) (Continue x))
keyed_after k m x = Continue x

-- the queue of the chunk after the move, or else which chunk to ask for before it
abbrev pub queue_after : Move → ChunkRef → ControlFlow (Option ClassQueue) ChunkRef
queue_after (Takes (InQueue c q (Chunk y))) x = cond (same_chunk x y) (Break None) (Continue x)
queue_after (Puts (ToQueue c q (Chunk y) a)) x = cond (same_chunk x y) (Break (Some (record { class = c; queue = q }))) (Continue x)
queue_after (Fills y o) x = cond (same_chunk x y) (Break None) (Continue x)
queue_after (Shifts a b) x = cond (same_chunk x b) (Continue a) (cond (same_chunk x a) (Break None) (Continue x))
queue_after m x = Continue x

-- the answer of one move, or else that of those before it
abbrev pub or_before : {T : Type 0} → ControlFlow T ChunkRef → (ChunkRef → ControlFlow T ChunkRef) → ControlFlow T ChunkRef
or_before (Break t) f = Break t
or_before (Continue x) f = f x

-- the same of a few moves that go together, the last played first
abbrev pub keyed_through : List ℕ → List Move → ChunkRef → ControlFlow Bool ChunkRef
keyed_through k [] x = Continue x
keyed_through k (m ∷ ms) x = or_before (keyed_after k m x) (keyed_through k ms)

-- the same of the queue
abbrev pub queue_through : List Move → ChunkRef → ControlFlow (Option ClassQueue) ChunkRef
queue_through [] x = Continue x
queue_through (m ∷ ms) x = or_before (queue_after m x) (queue_through ms)

-- the clock that the first of these moves sets, if one does
abbrev pub clock_through : List Move → Option ℕ
clock_through [] = None
clock_through (Sets (Timing t) ∷ ms) = Some t.clock
clock_through (m ∷ ms) = clock_through ms

-- the removals from the index that a change of a record tells, as the record of a step tells them
abbrev pub removals_by : {A : Type 0} → kept.Change A → List Removal
removals_by (stored.Enter q n x c i a) = removal (Some i) n
removals_by (stored.Link q c x i a n) = removal (Some i) None
removals_by (stored.Revive q n x c i a) = removal (Some i) n
removals_by m = []

-- the cause that the record notes, where the key was held before the step
abbrev pub left_cause : Option KeyChange → Option Cause
left_cause None = None
left_cause (Some t) = cond (is_some t.leads) t.note None
