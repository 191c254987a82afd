use Rattle.std.proofs.Common.{rules}
use Rattle.rev_inverse.proofs.parts.Shelf.fill.Goals as goal

pub invariant_of-result : goal.invariant_of-result
invariant_of-result g c = search rules steps 500000

pub returns : goal.returns
returns g c = search rules steps 500000
