use Rattle.rev_import_commands.proofs.Reports.{tells_logs}
use Rattle.rev_import_commands.proofs.import.add_report.Goals as goal

pub returns-in-Ok : goal.returns-in-Ok
returns-in-Ok c = tells_logs _ _ _ _ _ _ _ _ c.in_ok-add_counts.ensures c.in_ok-add_check.ensures c.in-Ok.ensures
