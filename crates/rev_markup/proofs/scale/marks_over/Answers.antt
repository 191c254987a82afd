use Rattle.std.proofs.Common.{◌≤◌, ◌<◌, ◌*◌, arith}
use Rattle.rev_markup.proofs.Marks.{marks_reach, more_reaches}
use Rattle.rev_markup.proofs.scale.marks_over.Goals as goal

pub returns-clause-over : goal.returns-clause-over
returns-clause-over c = λ some.
    let some_step : 0 < c.max-step.result = omega (arith, c.max-step.ensures) in
    let enough : c.args.last ≤ c.max-step.result * c.args.most = rw c.max-step.ensures (more_reaches c.args.last c.step_to.result c.args.most (c.step_to.ensures some)) in
    rw (c.min-count.ensures, c.max.ensures, c.div_ceil.ensures) (marks_reach c.args.last c.max-step.result c.args.most some_step enough)
