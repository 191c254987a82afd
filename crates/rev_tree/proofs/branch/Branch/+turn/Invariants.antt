use Rattle.std.proofs.Common.{length}
use Rattle.rev_tree.proofs.branch.Branch.+turn.Given as goal

abbrev pub decreases-turn : goal.decreases-turn
decreases-turn g l = length l.way.now
