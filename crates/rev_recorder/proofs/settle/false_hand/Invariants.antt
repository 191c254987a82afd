use Rattle.std.proofs.Common.{ℕ, ◌<◌, slice_index_or}
use Rattle.rev_recorder.specs.Hands.{PlainHand, Agrees}
use Rattle.rev_recorder.proofs.settle.false_hand.Given as goal

abbrev pub invariant-loop-hand : goal.invariant-loop-hand
invariant-loop-hand l = (k : ℕ) (d : PlainHand) → k < l.hand-index → Agrees l.log l.session (slice_index_or l.hands k d)
