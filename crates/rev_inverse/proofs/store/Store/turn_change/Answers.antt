use Rattle.std.proofs.Common.{rules}
use Rattle.rev_inverse.proofs.store.Store.turn_change.Goals as goal

pub returns-in-Shift-clause-reverse : goal.returns-in-Shift-clause-reverse
returns-in-Shift-clause-reverse g c = search rules steps 1500000
