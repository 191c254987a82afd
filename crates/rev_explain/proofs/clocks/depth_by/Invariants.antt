use Rattle.std.proofs.Common.{◌-◌, ◌≤◌}
use Rattle.rev_explain.proofs.clocks.depth_by.Given as goal

abbrev pub invariant-narrow : goal.invariant-narrow
invariant-narrow g l = l.low ≤ l.high

abbrev pub decreases-narrow : goal.decreases-narrow
decreases-narrow g l = l.high - l.low
