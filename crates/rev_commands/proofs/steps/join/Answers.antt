use Rattle.std.proofs.Common.{rules}
use Rattle.rev_commands.proofs.steps.join.Goals as goal

pub returns-clause-step : goal.returns-clause-step
returns-clause-step g c = search rules
