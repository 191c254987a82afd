use Rattle.std.proofs.Common.{rules}
use Rattle.rev_maintainer.proofs.room.plan_room.Goals as goal

pub returns : goal.returns
returns g c = search rules steps 1500000
