use Rattle.std.proofs.Common.{rules}
use Rattle.rev_maintainer.proofs.room.room.Goals as goal

pub returns-clause-done : goal.returns-clause-done
returns-clause-done g c = search rules steps 500000

pub returns-clause-told : goal.returns-clause-told
returns-clause-told g c = search rules steps 1500000
