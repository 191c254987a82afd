use Rattle.std.proofs.Common.{refl}
use Rattle.rev_log.proofs.events.leaves_item.Goals as goal

pub returns-in-Deletion : goal.returns-in-Deletion
returns-in-Deletion g c = rw c.in-Deletion.is refl
