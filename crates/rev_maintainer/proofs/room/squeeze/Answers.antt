use Rattle.std.proofs.Common.{rules}
use Rattle.rev_maintainer.proofs.room.squeeze.Goals as goal

pub returns-in-None-clause-state : goal.returns-in-None-clause-state
returns-in-None-clause-state g c = search rules steps 4000000
