use Rattle.std.proofs.Common.{◌≡◌, None}
use Rattle.rev_plays.specs.Replies.{state_of}
use Rattle.rev_plays.specs.Start.{IsShort, run_forward}
use Rattle.rev_plays.proofs.Tracing.{IsSoFar}
use Rattle.rev_plays.proofs.start.play_lines.Given as goal

abbrev pub invariant-loop-before : goal.invariant-loop-before
invariant-loop-before g l = (l.lines.fault ≡ None) × (l.lines.input.bytes.given ≡ 0) × IsShort l.session
    × IsSoFar l.fn.lines.input.dialect l.fn.lines.input l.lines.input (λ steps. state_of l.session ≡ run_forward (state_of l.fn.session) steps) l.before
