use Rattle.std.proofs.Common.{◌≡◌, ◌+◌, length}
use Rattle.rev_inverse.proofs.TurningRecord.{IsTurnedFrom}
use Rattle.rev_inverse.proofs.store.Store.turn.Given as goal

abbrev pub invariant-loop-place : goal.invariant-loop-place
invariant-loop-place g l = IsTurnedFrom l.fn.undo.changes l.fn.self l.place l.self l.undo.changes × (l.undo.room + length l.fn.undo.moves ≡ l.fn.undo.room + length l.undo.moves)

abbrev pub decreases-loop-place : goal.decreases-loop-place
decreases-loop-place g l = l.place
