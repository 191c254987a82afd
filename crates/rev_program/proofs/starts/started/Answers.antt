use Rattle.std.proofs.Common.{rules, inr}
use Rattle.rev_program.proofs.starts.started.Goals as goal

pub returns-in-Err-clause-err : goal.returns-in-Err-clause-err
returns-in-Err-clause-err g c = inr (search rules)
