use Rattle.rev_import_commands.proofs.Reports.{reports}
use Rattle.rev_import_commands.proofs.traces.import_csv.Goals as goal

pub returns-clause-done : goal.returns-clause-done
returns-clause-done g c = λ none. reports _ _ _ _ _ _ _ _ c.import-done.ensures c.as_slice.ensures.value (c.end_import.ensures.done none)
