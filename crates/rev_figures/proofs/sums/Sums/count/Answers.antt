use Rattle.std.proofs.Common.{◌∙◌, fold, get_or, ap}
use Rattle.rev_figures.specs.Sums.{step_at, lost_at}
use Rattle.rev_figures.proofs.Adding.{counts_next}
use Rattle.rev_figures.proofs.sums.Sums.count.Goals as goal

pub returns-clause-counts : goal.returns-clause-counts
returns-clause-counts g c = λ ss ls w.
    let steps = c.args.self.now.steps.items in
    let lost = c.args.self.now.lost.items in
    counts_next ss c.args.part.now.steps.items ls c.args.part.now.leavings.items steps c.count_steps.new.counts.items lost c.count_leavings.new.counts.items w
    c.count_steps.ensures.wide (λ k d lt. c.count_steps.ensures.counts k d lt ∙ ap (fold (step_at k) (get_or steps k d)) c.deref.ensures.value)
    c.count_leavings.ensures.wide (λ k d lt. c.count_leavings.ensures.counts k d lt ∙ ap (fold (lost_at k) (get_or lost k d)) c.deref-2.ensures.value)
