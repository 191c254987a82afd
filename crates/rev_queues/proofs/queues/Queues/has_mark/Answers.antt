use Rattle.std.proofs.Common.{rules}
use Rattle.rev_queues.proofs.queues.Queues.has_mark.Goals as goal

pub returns : goal.returns
returns g c = search rules steps 500000
