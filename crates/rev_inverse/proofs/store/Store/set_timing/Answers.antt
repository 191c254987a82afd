use Rattle.std.proofs.Common.{rules}
use Rattle.rev_inverse.proofs.store.Store.set_timing.Goals as goal

pub returns-clause-before : goal.returns-clause-before
returns-clause-before g c = search rules steps 1500000
