use Rattle.std.proofs.Common.{◌≡◌, ◌++◌, drop}
use Rattle.rev_markup.specs.Escape.{escaped}
use Rattle.rev_markup.proofs.escape.put_escaped.Given as goal

-- what was put, and what is left to put, are all
abbrev pub invariant-loop-byte : goal.invariant-loop-byte
invariant-loop-byte l = l.out.items ++ escaped (drop l.byte-index l.text) ≡ l.initial.out.items ++ escaped l.text
