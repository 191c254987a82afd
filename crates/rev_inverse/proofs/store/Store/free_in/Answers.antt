use Rattle.std.proofs.Common.{rules}
use Rattle.rev_inverse.proofs.store.Store.free_in.Goals as goal

pub put_to_free-requires-clause-possible : goal.put_to_free-requires-clause-possible
put_to_free-requires-clause-possible g c = search rules

pub returns-clause-state : goal.returns-clause-state
returns-clause-state g c = search rules steps 4000000
