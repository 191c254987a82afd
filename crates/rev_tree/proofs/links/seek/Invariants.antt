use Rattle.rev_tree.specs.Links.{mentions_of}
use Rattle.rev_tree.proofs.Latest.{Seeks}
use Rattle.rev_tree.proofs.links.seek.Given as goal
use Rattle.std.proofs.Common.{length}

abbrev pub invariant-walk : goal.invariant-walk
invariant-walk l = Seeks (mentions_of l.entries) (length l.heads) l.hash l.bound l.cursor

abbrev pub decreases-walk : goal.decreases-walk
decreases-walk l = l.cursor
