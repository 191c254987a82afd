use Rattle.std.proofs.Common.{◌≡◌, ◌++◌, drop}
use Rattle.rev_recordings.specs.Rows.{rows_text}
use Rattle.rev_recordings.proofs.rows.put_rows.Given as goal

-- with the calls that are left, the rows are those of the whole log
abbrev pub invariant-loop-place : goal.invariant-loop-place
invariant-loop-place l = l.text.items ++ rows_text l.session l.place (drop l.place l.log) ≡ l.fn.text.items ++ rows_text l.fn.session 0 l.fn.log
