use Rattle.std.proofs.Common.{[]}
use Rattle.rev_import.specs.Writing.{Writes}
use Rattle.rev_snapshot.proofs.start.Writer.put_pulls.Given as goal

abbrev pub invariant-loop : goal.invariant-loop
invariant-loop g l = Writes l.fn.out.items l.out.items []
