use Rattle.std.proofs.Common.{take}
use Rattle.rev_import.specs.Writing.{Writes}
use Rattle.rev_snapshot.specs.Start.{items_lines}
use Rattle.rev_snapshot.proofs.start.Writer.put_items.Given as goal

abbrev pub invariant-loop-placed : goal.invariant-loop-placed
invariant-loop-placed g l = Writes l.fn.out.items l.out.items (items_lines (take l.placed-index l.items))
