use Rattle.std.proofs.Common.{rules}
use Rattle.rev_import_commands.proofs.ending.end_import.Goals as goal

pub returns-in-Err-clause-early : goal.returns-in-Err-clause-early
returns-in-Err-clause-early g c = λ some. (c.in-Err.stop, search rules)

pub returns-in-Ok-clause-done : goal.returns-in-Ok-clause-done
returns-in-Ok-clause-done g c = λ none. (search rules, c.tell_bytes.ensures)
