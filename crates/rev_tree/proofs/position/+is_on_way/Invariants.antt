use Rattle.std.proofs.Common.{length}
use Rattle.rev_tree.proofs.position.+is_on_way.Given as goal

abbrev pub decreases-is_on_way : goal.decreases-is_on_way
decreases-is_on_way l = length l.way.now
