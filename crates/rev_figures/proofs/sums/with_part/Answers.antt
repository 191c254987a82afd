use Rattle.std.proofs.Common.{◌∙◌, ap}
use Rattle.rev_figures.specs.Tables.{last_second}
use Rattle.rev_figures.specs.Sums.{both_totals}
use Rattle.rev_figures.proofs.Adding.{totals_next}
use Rattle.rev_figures.proofs.sums.with_part.Goals as goal

pub returns : goal.returns
returns g c = λ t ss ls e.
    let now = c.args.totals in
    let part = c.count_all.result in
    let all = c.count_all.ensures in
    c.both_totals.ensures
    ∙ ap (both_totals now part) (c.last_second-last.ensures ∙ ap (last_second now.last_second) c.deref.ensures.value)
    ∙ totals_next t ss c.args.part.now.steps.items ls c.args.part.now.leavings.items now part e all.steps all.hits all.misses all.stores all.left
