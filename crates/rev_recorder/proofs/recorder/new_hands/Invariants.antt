use Rattle.std.proofs.Common.{◌≡◌, ◌≤◌, ◌<◌, ℕ, [], vec_len, slice_index_or}
use Rattle.std.specs.Vec.{vec_capacity}
use Rattle.rev_recorder.specs.Hands.{PlainHand}
use Rattle.rev_recorder.proofs.recorder.new_hands.Given as goal

abbrev pub invariant-loop-player : goal.invariant-loop-player
invariant-loop-player l = record {
  count : vec_len l.hands ≡ l.player;
  room : l.players ≤ vec_capacity l.hands;
  each : (k : ℕ) (d : PlainHand) → k < l.player → slice_index_or l.hands.items k d ≡ record { player = k; seal = l.seal; entries = [] };
}
