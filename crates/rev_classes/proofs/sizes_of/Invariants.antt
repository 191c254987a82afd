use Rattle.rev_classes.proofs.Filling.{IsFilled}
use Rattle.rev_classes.proofs.sizes_of.Given as goal

abbrev pub invariant-loop-class : goal.invariant-loop-class
invariant-loop-class l = IsFilled l.page_size l.num l.den l.sizes.items l.unrounded l._class
