use Rattle.std.proofs.Common.{◌≡◌, ◌++◌, drop}
use Rattle.rev_life.specs.Lines.{moves_tokens}
use Rattle.rev_life.proofs.lines.put_moves.Given as goal

-- what was put, and what is left to put, are all
abbrev pub invariant-loop-moved : goal.invariant-loop-moved
invariant-loop-moved g l = (l.out.tokens ++ moves_tokens (drop l.moved-index l.moves) ≡ l.initial.out.tokens ++ moves_tokens l.moves) × (l.out.before ≡ l.initial.out.before)
