use Rattle.std.proofs.Common.{◌≡◌, ◌+◌, take}
use Rattle.std.specs.List.{sum_by}
use Rattle.rev_tree.proofs.position.Position.depth.Given as goal

abbrev pub invariant-loop-junction : goal.invariant-loop-junction
invariant-loop-junction g l = l.depth ≡ l.self.here + sum_by (λ p. p.taken) (take l.junction-index l.junction-items)
