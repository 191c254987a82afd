use Rattle.std.proofs.Common.{rules}
use Rattle.rev_inverse.proofs.store.Store.enter_in.Goals as goal

pub returns-clause-notes : goal.returns-clause-notes
returns-clause-notes g c = search rules steps 500000
