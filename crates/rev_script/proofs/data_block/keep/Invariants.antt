use Rattle.std.proofs.Common.{◌≡◌, ◌+◌, List, ℕ, ◌++◌, length}
use Rattle.rev_script.specs.ByteReader.{Took}
use Rattle.rev_script.proofs.data_block.keep.Given as goal

abbrev pub invariant-pieces : goal.invariant-pieces
invariant-pieces g l = (taken : List ℕ) × Took l.fn.bytes l.bytes taken × (length taken + l.left ≡ l.n) × (l.into.items ≡ l.fn.into.items ++ taken)

abbrev pub decreases-pieces : goal.decreases-pieces
decreases-pieces g l = l.left
