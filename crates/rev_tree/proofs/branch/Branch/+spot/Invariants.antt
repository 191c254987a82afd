use Rattle.std.proofs.Common.{length}
use Rattle.rev_tree.proofs.branch.Branch.+spot.Given as goal

abbrev pub decreases-spot : goal.decreases-spot
decreases-spot g l = length l.way.now
