use Rattle.std.proofs.Common.{rules}
use Rattle.rev_inverse.proofs.record.Record.with_room.Goals as goal

pub returns : goal.returns
returns g c = search rules steps 4000000
