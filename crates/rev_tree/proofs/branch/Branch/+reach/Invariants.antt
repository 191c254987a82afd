use Rattle.std.proofs.Common.{length}
use Rattle.rev_tree.proofs.branch.Branch.+reach.Given as goal

abbrev pub decreases-reach : goal.decreases-reach
decreases-reach g l = length l.way.now
