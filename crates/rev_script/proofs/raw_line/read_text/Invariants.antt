use Rattle.std.proofs.Common.{◌≡◌, ◌-◌}
use Rattle.rev_script.specs.ByteReader.{IsEnded}
use Rattle.rev_script.proofs.Pieces.{IsSoFar}
use Rattle.rev_script.proofs.raw_line.read_text.Given as goal

abbrev pub invariant-pieces : goal.invariant-pieces
invariant-pieces g l = IsSoFar l.fn.bytes l.bytes l.length l.line.items
    × (IsEnded l.fn.bytes → IsEnded l.bytes × (l.length ≡ 0))

abbrev pub decreases-pieces : goal.decreases-pieces
decreases-pieces g l = 4294967296 - l.bytes.given
