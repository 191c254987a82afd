use Rattle.std.proofs.Common.{◌∙◌, ap}
use Rattle.rev_top.specs.Figures.{counted}
use Rattle.rev_top.proofs.Summed.{one_more}
use Rattle.rev_top.proofs.figures.Figures.with.Goals as goal

pub returns-clause-sums : goal.returns-clause-sums
returns-clause-sums c = λ facts e. c.counted.ensures ∙ ap (counted c.args.fact) e ∙ one_more c.args.fact facts
