use Rattle.std.proofs.Common.{◌<◌, ◌-◌}
use Rattle.rev_tree.proofs.mentions.wanted.Given as goal

abbrev pub invariant-more : goal.invariant-more
invariant-more l = 0 < l.wanted

abbrev pub decreases-more : goal.decreases-more
decreases-more l = l.entries - l.wanted
