use Rattle.std.proofs.Common.{◌≡◌, ◌++◌, drop, string_bytes}
use Rattle.rev_pushers.specs.Parts.{hex}
use Rattle.rev_pushers.proofs.parts.hex_of.Given as goal

-- what was put, and what is left to put, are all
abbrev pub invariant-loop-byte : goal.invariant-loop-byte
invariant-loop-byte g l = string_bytes l.digits ++ hex (drop l.byte-index l.bytes) ≡ hex l.bytes
