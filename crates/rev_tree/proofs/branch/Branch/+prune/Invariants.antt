use Rattle.std.proofs.Common.{length}
use Rattle.rev_tree.proofs.branch.Branch.+prune.Given as goal

abbrev pub decreases-prune : goal.decreases-prune
decreases-prune g l = length l.way.now
