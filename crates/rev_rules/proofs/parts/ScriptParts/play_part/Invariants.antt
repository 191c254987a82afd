use Rattle.std.proofs.Common.{◌≡◌}
use Rattle.rev_rules.proofs.Parting.{IsSoFar}
use Rattle.rev_rules.proofs.parts.ScriptParts.play_part.Given as goal

abbrev pub invariant-loop-before : goal.invariant-loop-before
invariant-loop-before g l = (l.self-inside.count ≡ l.before) × IsSoFar l.fn.self l.fn.session l.self-inside.lines.input l.session l.before
