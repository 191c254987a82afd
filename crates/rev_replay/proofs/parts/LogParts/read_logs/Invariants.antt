use Rattle.std.specs.Prelude.{true}
use Rattle.rev_replay.specs.Parts.{parts_state}
use Rattle.rev_replay.specs.Turns.{GoesOn}
use Rattle.rev_replay.proofs.parts.LogParts.read_logs.Given as goal

abbrev pub invariant-loop : goal.invariant-loop
invariant-loop g l = record {
  on : GoesOn true (parts_state l.fn.self) (parts_state l.self);
}
