use Rattle.std.proofs.Common.{rules}
use Rattle.rev_index.proofs.making.slots.Goals as goal

pub invariant_of-result : goal.invariant_of-result
invariant_of-result g c = search rules steps 4000000

pub returns : goal.returns
returns g c = search rules steps 1500000
