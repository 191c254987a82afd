use Rattle.std.proofs.Common.{length}
use Rattle.rev_json.proofs.row.put_rows.Given as goal

-- each row is shorter than what was left
abbrev pub decreases-rows : goal.decreases-rows
decreases-rows g l = length l.rest
