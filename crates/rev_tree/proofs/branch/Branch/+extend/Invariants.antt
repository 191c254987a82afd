use Rattle.std.proofs.Common.{length}
use Rattle.rev_tree.proofs.branch.Branch.+extend.Given as goal

abbrev pub decreases-extend : goal.decreases-extend
decreases-extend g l = length l.way.now
