use Rattle.std.proofs.Common.{◌≡◌, length, map}
use Rattle.rev_tree.specs.Places.{with_place}
use Rattle.rev_tree.proofs.Trims.{trim_upto}
use Rattle.rev_tree.proofs.branch.trim_forks.Given as goal

abbrev pub invariant-loop-fork : goal.invariant-loop-fork
invariant-loop-fork g l = (length l.fork-items ≡ length l.fn.forks.items) × (map (λ f. with_place f.from f.branch.value) l.fork-items ≡ trim_upto l.at l.fork-index (map (λ f. with_place f.from f.branch.value) l.fn.forks.items))
