use Rattle.std.proofs.Common.{rules}
use Rattle.rev_commands.proofs.hit.access_moves.Goals as goal

pub returns-else-is_dead : goal.returns-else-is_dead
returns-else-is_dead g c = search rules steps 1500000
