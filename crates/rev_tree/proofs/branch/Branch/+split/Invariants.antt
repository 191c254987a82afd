use Rattle.std.proofs.Common.{length}
use Rattle.rev_tree.proofs.branch.Branch.+split.Given as goal

abbrev pub decreases-split : goal.decreases-split
decreases-split g l = length l.way.now
