use Rattle.std.proofs.Common.{rules}
use Rattle.rev_commands.proofs.renew.make_way.Goals as goal

pub returns-in-Some-clause-told : goal.returns-in-Some-clause-told
returns-in-Some-clause-told g c = search rules steps 500000
