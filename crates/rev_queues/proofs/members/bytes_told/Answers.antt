use Rattle.std.proofs.Common.{rules}
use Rattle.rev_queues.proofs.members.bytes_told.Goals as goal

pub returns-in-Mark : goal.returns-in-Mark
returns-in-Mark c = search rules steps 500000
