use Rattle.std.proofs.Common.{rules}
use Rattle.rev_commands.proofs.verbs.give_up.Goals as goal

pub returns-in-Set-clause-done : goal.returns-in-Set-clause-done
returns-in-Set-clause-done g c = search rules steps 1500000

pub returns-in-Set-clause-told : goal.returns-in-Set-clause-told
returns-in-Set-clause-told g c = search rules steps 500000
