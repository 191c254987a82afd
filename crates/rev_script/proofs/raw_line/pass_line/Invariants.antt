use Rattle.std.proofs.Common.{◌≡◌, ◌-◌, List, ℕ, [], false}
use Rattle.rev_script.specs.ByteReader.{Took, IsEnded}
use Rattle.rev_script.specs.Script.{has_lf}
use Rattle.rev_script.proofs.raw_line.pass_line.Given as goal

abbrev pub invariant-pieces : goal.invariant-pieces
invariant-pieces g l = ((text : List ℕ) × (has_lf text ≡ false) × Took l.fn.bytes l.bytes text)
    × (IsEnded l.fn.bytes → IsEnded l.bytes × Took l.fn.bytes l.bytes [])

abbrev pub decreases-pieces : goal.decreases-pieces
decreases-pieces g l = 4294967296 - l.bytes.given
