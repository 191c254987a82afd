use Rattle.rev_shell.proofs.Runs.{nothing_read}
use Rattle.rev_shell.proofs.run.run.Goals as goal

pub returns-in-None-clause-err : goal.returns-in-None-clause-err
returns-in-None-clause-err g c = nothing_read _ _ _ _ _
