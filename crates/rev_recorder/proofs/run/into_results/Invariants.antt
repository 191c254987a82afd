use Rattle.std.proofs.Common.{◌≡◌, ◌≤◌, ◌+◌, ◌++◌, map, length, vec_len}
use Rattle.std.specs.Vec.{vec_capacity}
use Rattle.rev_recorder.specs.Running.{answers}
use Rattle.rev_recorder.proofs.run.into_results.Given as goal

abbrev pub invariant-loop-job : goal.invariant-loop-job
invariant-loop-job l = record {
  room : vec_len l.done + length l.rest.items ≤ vec_capacity l.done;
  moved : l.done.items ++ map answers l.rest.items ≡ map answers l.fn.jobs.items;
}

abbrev pub decreases-loop-job : goal.decreases-loop-job
decreases-loop-job l = length l.rest.items
