use Rattle.std.proofs.Common.{◌≡◌, drop}
use Rattle.rev_report.specs.Prefixes.{with_rows}
use Rattle.rev_report.proofs.prefixes.with_rows.Given as goal

-- what is added up, with the rows that are left, is all
abbrev pub invariant-loop-row : goal.invariant-loop-row
invariant-loop-row l = with_rows l.all (drop l.row-index l.rows) ≡ with_rows l.fn.counts l.rows
