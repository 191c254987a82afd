use Rattle.std.proofs.Common.{◌<◌, ◌-◌, ◌^◌, refl, ap, arith}
use Rattle.rev_watch.specs.Reader.{line_count}
use Rattle.rev_intake.proofs.Taken.{nothing_yet, line_more, log_over, log_cut}
use Rattle.rev_intake.proofs.intake.Intake.take_log.Goals as goal

pub lines-init : goal.lines-init
lines-init g c = nothing_yet _ _ _ _ _

pub returns-in-None-clause-ok : goal.returns-in-None-clause-ok
returns-in-None-clause-ok g c = log_over _ _ _ _ _ _ _ _ _ _ c.lines.invariant (rw c.in-None.is at c.in_ok-next.ensures.ok)

pub lines-preserved : goal.lines-preserved
lines-preserved g c =
    let next = rw (c.in-Some-Whole.is, c.in-Some-Whole.field-0-is) at c.in_ok-next.ensures.ok in
    let few : line_count c.lines.log < 2 ^ 64 - 1 = omega arith in
    line_more _ _ _ _ _ _ _ _ _ _ _ _ _ _ _ refl few c.lines.invariant next c.in_ok-take_line-in-Some-Whole.ensures.takes

pub returns-in-Some-CutOff-clause-ok : goal.returns-in-Some-CutOff-clause-ok
returns-in-Some-CutOff-clause-ok g c =
    let next = rw (c.in-Some-CutOff.is, c.in-Some-CutOff.field-0-is) at c.in_ok-next.ensures.ok in
    let seen = c.self.view_is in
    log_cut _ _ _ _ _ _ _ _ _ _ _ c.lines.invariant next (ap (λ i. i.range) seen) (ap (λ i. i.window) seen) (ap (λ i. i.waiting) seen) (ap (λ i. i.waits) seen)
    (rw (c.add.ensures, c.add-in-Some-CutOff.ensures, ← seen) refl)
