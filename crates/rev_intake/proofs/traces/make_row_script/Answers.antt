use Rattle.rev_intake.proofs.RowsTaken.{row_script_made}
use Rattle.rev_intake.proofs.traces.make_row_script.Goals as goal

pub returns-in-Ok-finish-clause-ok : goal.returns-in-Ok-finish-clause-ok
returns-in-Ok-finish-clause-ok g c = row_script_made _ _ _ _ _ _ _ _ _ _ _ c.in-Ok.ensures.ok c.in-Ok-finish.ensures.ok
