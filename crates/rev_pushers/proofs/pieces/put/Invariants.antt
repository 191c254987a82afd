use Rattle.std.proofs.Common.{◌≡◌, ◌++◌, drop}
use Rattle.rev_pushers.specs.Pieces.{pieces_text}
use Rattle.rev_pushers.proofs.pieces.put.Given as goal

-- what was put, and what is left to put, are all
abbrev pub invariant-loop-piece : goal.invariant-loop-piece
invariant-loop-piece g l = l.out.items ++ pieces_text (drop l.piece-index l.pieces) ≡ l.initial.out.items ++ pieces_text l.pieces
