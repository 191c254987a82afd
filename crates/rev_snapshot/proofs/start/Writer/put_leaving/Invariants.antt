use Rattle.std.proofs.Common.{[]}
use Rattle.rev_import.specs.Writing.{Writes}
use Rattle.rev_snapshot.proofs.start.Writer.put_leaving.Given as goal

abbrev pub invariant-loop-class : goal.invariant-loop-class
invariant-loop-class g l = Writes l.fn.out.items l.out.items []
