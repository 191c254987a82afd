use Rattle.std.proofs.Common.{◌≡◌, None}
use Rattle.rev_plays.proofs.Tracing.{IsSoFar}
use Rattle.rev_rules.specs.Grown.{GoesOn}
use Rattle.rev_rules.proofs.grown.Growing.play_lines.Given as goal

abbrev pub invariant-loop-before : goal.invariant-loop-before
invariant-loop-before g l = (l.lines.fault ≡ None) × (l.lines.input.bytes.given ≡ 0)
    × IsSoFar l.fn.lines.input.dialect l.fn.lines.input l.lines.input (λ steps. GoesOn l.fn.self steps l.self) l.before
