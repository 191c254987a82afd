use Rattle.std.proofs.Common.{None, ◌∙◌, ap}
use Rattle.rev_figures.specs.Tables.{cause_counts}
use Rattle.rev_figures.proofs.tables.count_all.Goals as goal

pub returns-clause-left : goal.returns-clause-left
returns-clause-left g c = c.count_causes.ensures ∙ ap (cause_counts None) c.deref-4.ensures.value
