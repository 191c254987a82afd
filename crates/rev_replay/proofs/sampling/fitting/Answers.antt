use Rattle.std.proofs.Common.{◌<◌, ◌/◌, subst}
use Rattle.rev_replay.specs.Sampling.{one, double}
use Rattle.rev_replay.proofs.sampling.fitting.Goals as goal

pub double-init : goal.double-init
double-init c = one

pub double-preserved : goal.double-preserved
double-preserved c =
    double c.double.invariant c.double-test.true (subst (λ m. 2048 < c.args.pages / m) c.from.ensures c.if-pages-from-gt-MOST_PAGES.true)
