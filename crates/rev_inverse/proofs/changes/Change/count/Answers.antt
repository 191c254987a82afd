use Rattle.std.proofs.Common.{rules}
use Rattle.rev_inverse.proofs.changes.Change.count.Goals as goal

pub returns-in-Free : goal.returns-in-Free
returns-in-Free g c = search rules steps 500000

pub returns-in-Requeue : goal.returns-in-Requeue
returns-in-Requeue g c = search rules steps 500000
