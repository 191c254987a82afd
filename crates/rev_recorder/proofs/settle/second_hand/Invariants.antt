use Rattle.std.proofs.Common.{◌≡◌, ℕ, ◌<◌, true, take, slice_get, Some, []}
use Rattle.rev_recorder.specs.Hands.{PlainHand, has_player}
use Rattle.rev_recorder.proofs.settle.second_hand.Given as goal

abbrev pub invariant-loop-index : goal.invariant-loop-index
invariant-loop-index l = (k : ℕ) (hand : PlainHand) → k < l.index → slice_get l.hands k ≡ Some hand → has_player hand.player (take k l.hands) ≡ true → hand.entries ≡ []
