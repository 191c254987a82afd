use Rattle.std.proofs.Common.{◌≡◌, ◌++◌, drop}
use Rattle.rev_markup.specs.Escape.{escaped_bytes}
use Rattle.rev_markup.proofs.escape.put_escaped_bytes.Given as goal

-- what was put, and what is left to put, are all
abbrev pub invariant-loop-byte : goal.invariant-loop-byte
invariant-loop-byte l = l.out.items ++ escaped_bytes (drop l.byte-index l.bytes) ≡ l.initial.out.items ++ escaped_bytes l.bytes
