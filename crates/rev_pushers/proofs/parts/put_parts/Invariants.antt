use Rattle.std.proofs.Common.{◌≡◌, ◌++◌, drop}
use Rattle.rev_pushers.specs.Parts.{parts_tokens}
use Rattle.rev_pushers.proofs.parts.put_parts.Given as goal

-- what was put, and what is left to put, are all
abbrev pub invariant-loop-part : goal.invariant-loop-part
invariant-loop-part g l = (l.out.tokens ++ parts_tokens (drop l.part-index l.parts) ≡ l.initial.out.tokens ++ parts_tokens l.parts) × (l.out.before ≡ l.initial.out.before)
