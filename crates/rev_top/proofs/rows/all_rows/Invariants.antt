use Rattle.std.proofs.Common.{take}
use Rattle.rev_top.specs.Rows.{AreRows}
use Rattle.rev_top.proofs.rows.all_rows.Given as goal

-- the rows are those of the names so far
abbrev pub invariant-loop-place : goal.invariant-loop-place
invariant-loop-place g l = AreRows l.by_class (take l.place l.table.rows.entries) l.rows.items
