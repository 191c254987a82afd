use Rattle.std.proofs.Common.{◌≡◌, ◌++◌, drop}
use Rattle.rev_markup.specs.Markup.{pieces_text}
use Rattle.rev_markup.proofs.markup.put.Given as goal

-- what was put, and what is left to put, are all
abbrev pub invariant-loop-piece : goal.invariant-loop-piece
invariant-loop-piece l = l.out.items ++ pieces_text (drop l.piece-index l.pieces) ≡ l.initial.out.items ++ pieces_text l.pieces
