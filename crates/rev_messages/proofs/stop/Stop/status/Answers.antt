use Rattle.std.proofs.Common.{rules}
use Rattle.rev_messages.proofs.stop.Stop.status.Goals as goal

pub returns-in-Memory-clause-status : goal.returns-in-Memory-clause-status
returns-in-Memory-clause-status c = search rules steps 500000
