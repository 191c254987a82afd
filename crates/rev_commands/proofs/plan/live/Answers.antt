use Rattle.std.proofs.Common.{rules}
use Rattle.rev_commands.proofs.plan.live.Goals as goal

pub returns : goal.returns
returns g c = search rules
