use Rattle.std.specs.Prelude.{◌^◌, ◌-◌}
use Rattle.rev_replay.specs.Sampling.{IsReached}
use Rattle.rev_replay.proofs.sampling.fitting.Given as goal

-- so far there are too many pages
abbrev pub invariant-double : goal.invariant-double
invariant-double l = IsReached l.pages l.one_of

abbrev pub decreases-double : goal.decreases-double
decreases-double l = 2 ^ 31 - l.one_of
