use Rattle.rev_snapshot.specs.Start.{Fills}
use Rattle.rev_snapshot.proofs.start.put_pages.Given as goal

abbrev pub invariant-loop-number : goal.invariant-loop-number
invariant-loop-number g l = Fills l.fn.out.items l.out.items

abbrev pub invariant-loop-number-2 : goal.invariant-loop-number-2
invariant-loop-number-2 g l = Fills l.fn.out.items l.out.items
