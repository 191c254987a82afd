use Rattle.std.proofs.Common.{rules}
use Rattle.rev_pages.proofs.parts.Slots.count.Goals as goal

pub returns : goal.returns
returns g c = search rules steps 500000
