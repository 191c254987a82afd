use Rattle.std.proofs.Common.{sym, ap, subst, eqb, get_or, ◌+◌}
use Rattle.rev_log.proofs.Votes.{HasRuns, has_more}
use Rattle.rev_log.proofs.seconds.middle.Goals as goal

pub loop-phase-preserved : goal.loop-phase-preserved
loop-phase-preserved c =
    let votes = c.args.votes.now in
    let phase = c.loop-phase.phase in
    subst (λ r. HasRuns votes (phase + 1) r) (sym c.next_runs-runs.ensures) (has_more votes phase c.loop-phase.runs _ (ap (eqb (get_or votes phase 0)) c.requires.most) c.loop-phase.invariant)
