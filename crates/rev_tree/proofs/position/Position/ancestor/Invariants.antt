use Rattle.std.proofs.Common.{◌≡◌, ◌≤◌, ◌-◌, length}
use Rattle.rev_tree.specs.Trails.{cut}
use Rattle.rev_tree.proofs.Trails.{rest_cut}
use Rattle.rev_tree.proofs.position.Position.ancestor.Given as goal

abbrev pub invariant-each : goal.invariant-each
invariant-each g l = (l.level ≤ length l.way) × (cut l.self.way.items l.fn.depth ≡ rest_cut l.way l.level l.left)

abbrev pub decreases-each : goal.decreases-each
decreases-each g l = length l.way - l.level
