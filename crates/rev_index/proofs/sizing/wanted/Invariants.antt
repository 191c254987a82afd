use Rattle.std.proofs.Common.{◌≤◌, ◌<◌, ◌^◌, ◌-◌}
use Rattle.rev_index.proofs.sizing.wanted.Given as goal

abbrev pub invariant-more : goal.invariant-more
invariant-more l = (0 < l.wanted) × (l.fn.buckets ≤ l.wanted) × (l.wanted ≤ 2 ^ 20)

abbrev pub decreases-more : goal.decreases-more
decreases-more l = 2 ^ 20 - l.wanted
