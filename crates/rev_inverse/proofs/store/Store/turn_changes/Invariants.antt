use Rattle.std.proofs.Common.{◌≡◌, length, map}
use Rattle.rev_inverse.specs.Record.{plain_change, in_order}
use Rattle.rev_inverse.proofs.TurningRecord.{IsTurnedFrom}
use Rattle.rev_inverse.proofs.store.Store.turn_changes.Given as goal

abbrev pub invariant-loop-place : goal.invariant-loop-place
invariant-loop-place g l = IsTurnedFrom (in_order l.fn.is_turned (map plain_change l.fn.changes)) l.fn.self l.place l.self (in_order l.fn.is_turned (map plain_change l.changes)) × (length l.changes ≡ length l.fn.changes)

abbrev pub decreases-loop-place : goal.decreases-loop-place
decreases-loop-place g l = l.place
