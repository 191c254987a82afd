use Rattle.std.proofs.Common.{rules}
use Rattle.rev_pages.proofs.making.slots.Goals as goal

pub returns : goal.returns
returns g c = search rules steps 1500000
