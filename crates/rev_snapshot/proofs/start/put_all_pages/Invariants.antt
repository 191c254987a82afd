use Rattle.rev_snapshot.specs.Start.{Fills}
use Rattle.rev_snapshot.proofs.start.put_all_pages.Given as goal

abbrev pub invariant-loop-class : goal.invariant-loop-class
invariant-loop-class g l = Fills l.fn.out.items l.out.items
