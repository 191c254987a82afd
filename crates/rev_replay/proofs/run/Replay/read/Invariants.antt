use Rattle.std.specs.Prelude.{true}
use Rattle.rev_replay.specs.Replayed.{state_of}
use Rattle.rev_replay.specs.Turns.{GoesOn}
use Rattle.rev_replay.proofs.run.Replay.read.Given as goal

abbrev pub invariant-loop : goal.invariant-loop
invariant-loop g l = record {
  on : GoesOn true (state_of l.fn.self) (state_of l.self);
}
