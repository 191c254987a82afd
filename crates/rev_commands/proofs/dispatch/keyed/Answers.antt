use Rattle.std.proofs.Common.{rules}
use Rattle.rev_commands.proofs.dispatch.keyed.Goals as goal

pub returns-in-Get-clause-step : goal.returns-in-Get-clause-step
returns-in-Get-clause-step g c = search rules steps 1500000

pub returns-in-Get-clause-told : goal.returns-in-Get-clause-told
returns-in-Get-clause-told g c = search rules steps 1500000
