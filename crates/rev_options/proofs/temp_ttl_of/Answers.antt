use Rattle.std.proofs.Common.{rules}
use Rattle.rev_options.proofs.temp_ttl_of.Goals as goal

pub returns-in_default : goal.returns-in_default
returns-in_default c = search rules steps 500000

pub returns-in_default-2 : goal.returns-in_default-2
returns-in_default-2 c = search rules steps 500000
