use Rattle.std.proofs.Common.{Some, ◌∙◌, sym, arith}
use Rattle.rev_figures.proofs.Tallies.{no_median}
use Rattle.rev_figures.proofs.classes.median_of.Goals as goal

pub returns-then-count-eq0 : goal.returns-then-count-eq0
returns-then-count-eq0 g c = no_median (Some c.args.class) c.args.which c.args.leavings.now (sym c.requires ∙ omega (arith, c.if-count-eq0.true))
