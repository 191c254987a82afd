use Rattle.std.proofs.Common.{rules}
use Rattle.rev_commands.proofs.look.look_at.Goals as goal

pub returns-then-is_dead-clause-found : goal.returns-then-is_dead-clause-found
returns-then-is_dead-clause-found g c = search rules steps 500000
