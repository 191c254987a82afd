use Rattle.std.proofs.Common.{rules}
use Rattle.rev_commands.proofs.verbs.refusal.Goals as goal

pub returns-in-Add : goal.returns-in-Add
returns-in-Add g c = search rules steps 1500000
