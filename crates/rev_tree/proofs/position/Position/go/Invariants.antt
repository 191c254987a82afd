use Rattle.std.proofs.Common.{◌≡◌, ◌-◌, ◌+◌, ℕ}
use Rattle.rev_tree.specs.Trips.{Climb, Descent}
use Rattle.rev_tree.specs.States.{rewind}
use Rattle.rev_tree.specs.Positions.{Moved, depth}
use Rattle.rev_tree.specs.Paths.{IsOnWay}
use Rattle.rev_tree.proofs.position.Position.go.Given as goal

abbrev pub invariant-back : goal.invariant-back
invariant-back g l =
    Moved (rewind l.initial.self.base l.initial.self.way.items l.initial.self.here l.initial.self.store) l.initial.self.base l.self.store l.self.base l.self.way.items l.self.here
    × Climb l.target l.at l.initial.self.way.items l.initial.self.here l.self.way.items l.self.here l.turns
    × (l.self.index ≡ l.initial.self.index)

abbrev pub decreases-back : goal.decreases-back
decreases-back g l = depth l.self.way.items l.self.here

abbrev pub invariant-on : goal.invariant-on
invariant-on g l =
    Moved (rewind l.initial.self.base l.initial.self.way.items l.initial.self.here l.initial.self.store) l.initial.self.base l.self.store l.self.base l.self.way.items l.self.here
    × IsOnWay l.self.way.items l.self.here l.target l.at
    × ((n : ℕ) × (l.turns ≡ l.initial.turns + n) × Descent l.target l.at l.initial.self.way.items l.initial.self.here l.self.way.items l.self.here n)
    × (l.self.index ≡ l.initial.self.index)

abbrev pub decreases-on : goal.decreases-on
decreases-on g l = depth l.target l.at - depth l.self.way.items l.self.here
