use Rattle.std.specs.Prelude.{◌≡◌, ℕ, ◌-◌, ◌<◌, ◌≤◌, Some, slice_get}
use Rattle.rev_tree.specs.Machine.{lineage}
use Rattle.rev_undotree.proofs.session.Session.depth_of.Given as goal

-- the nodes behind `high` have numbers over that one
abbrev pub invariant-narrow : goal.invariant-narrow
invariant-narrow g l =
    (l.first ≤ l.low) × (l.low ≤ l.high) × (l.high ≤ l.depth) × ((d n : ℕ) → l.high < d → d ≤ l.depth → slice_get (lineage l.self.rows l.self.current) (d - 1) ≡ Some n → l.number < n)

abbrev pub decreases-narrow : goal.decreases-narrow
decreases-narrow g l = l.high - l.low
