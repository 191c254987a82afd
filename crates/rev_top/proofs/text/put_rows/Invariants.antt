use Rattle.std.proofs.Common.{◌≡◌, drop}
use Rattle.rev_top.specs.Texts.{with_rows}
use Rattle.rev_top.proofs.text.put_rows.Given as goal

-- what is written, with the rows that are left to write, is all
abbrev pub invariant-loop-row : goal.invariant-loop-row
invariant-loop-row g l = with_rows l.out.items l.width (drop l.row-index l.rows) ≡ with_rows l.initial.out.items l.width l.rows
