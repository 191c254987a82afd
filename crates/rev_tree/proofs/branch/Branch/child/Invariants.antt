use Rattle.std.proofs.Common.{◌-◌, ◌≡◌, ◌≤◌, slice_get}
use Rattle.rev_tree.specs.Tree.{count}
use Rattle.rev_tree.specs.Children.{children_at, put_in, firsts}
use Rattle.rev_tree.proofs.Children.{forks_from}
use Rattle.rev_tree.proofs.branch.Branch.child.Given as goal

abbrev pub invariant-each : goal.invariant-each
invariant-each g l = (l.fork ≤ count l.self.forks) × (slice_get (put_in l.next (firsts l.here (forks_from l.self.forks l.fork))) l.left ≡ slice_get (children_at l.self l.here) l.index)

abbrev pub decreases-each : goal.decreases-each
decreases-each g l = count l.self.forks - l.fork
