use Rattle.std.proofs.Common.{◌+◌, ◌≤◌, length, true}
use Rattle.rev_replay.specs.Replayed.{state_of}
use Rattle.rev_replay.specs.Turns.{GoesOn}
use Rattle.rev_replay.proofs.logs.replay_logs.Given as goal

-- the place counts the logs that were taken in
abbrev pub invariant-files : goal.invariant-files
invariant-files g l = record {
  count : l.place + length l.rest.items ≤ length l.fn.files.items;
  on : GoesOn true (state_of l.fn.replay) (state_of l.replay);
}

abbrev pub decreases-files : goal.decreases-files
decreases-files g l = length l.rest.items
