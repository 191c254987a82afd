use Rattle.std.proofs.Common.{◌≡◌, ◌≤◌, ◌+◌, ◌++◌, map, length, vec_len}
use Rattle.std.specs.Vec.{vec_capacity}
use Rattle.rev_recorder.specs.Running.{asks, asked}
use Rattle.rev_recorder.proofs.run.into_jobs.Given as goal

abbrev pub invariant-loop-hand : goal.invariant-loop-hand
invariant-loop-hand l = record {
  room : vec_len l.jobs + length l.rest.items ≤ vec_capacity l.jobs;
  moved : map asks l.jobs.items ++ map asked l.rest.items ≡ map asked l.fn.work.items;
}

abbrev pub decreases-loop-hand : goal.decreases-loop-hand
decreases-loop-hand l = length l.rest.items
