use Rattle.std.proofs.Common.{◌≡◌, drop}
use Rattle.rev_top.specs.Rows.{sums}
use Rattle.rev_top.proofs.rows.sums.Given as goal

-- what is summed, with the rows that are left, is all
abbrev pub invariant-loop-row : goal.invariant-loop-row
invariant-loop-row l = sums (drop l.row-index l.rows) l.all ≡ sums l.rows l.fn.others
