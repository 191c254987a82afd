use Rattle.std.proofs.Common.{rules}
use Rattle.rev_steps.proofs.settings.set_temp_ttl.Goals as goal

pub returns-clause-step : goal.returns-clause-step
returns-clause-step g c = search rules steps 1500000
