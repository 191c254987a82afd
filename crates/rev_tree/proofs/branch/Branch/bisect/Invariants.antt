use Rattle.std.proofs.Common.{◌-◌, ◌<◌, ◌≤◌, ℕ, length, get_or}
use Rattle.rev_tree.specs.Ways.{no_node}
use Rattle.rev_tree.proofs.branch.Branch.bisect.Given as goal

abbrev pub invariant-narrow : goal.invariant-narrow
invariant-narrow g l =
    (l.high ≤ length l.self.run)
    × ((i : ℕ) → i < l.low → (get_or l.self.run i no_node).number < l.number)
    × ((i : ℕ) → l.high ≤ i → i < length l.self.run → l.number < (get_or l.self.run i no_node).number)

abbrev pub decreases-narrow : goal.decreases-narrow
decreases-narrow g l = l.high - l.low
