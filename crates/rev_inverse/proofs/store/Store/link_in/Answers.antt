use Rattle.std.proofs.Common.{rules}
use Rattle.rev_inverse.proofs.store.Store.link_in.Goals as goal

pub returns-clause-reverse : goal.returns-clause-reverse
returns-clause-reverse g c = search rules steps 4000000
