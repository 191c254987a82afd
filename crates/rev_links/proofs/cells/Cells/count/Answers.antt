use Rattle.std.proofs.Common.{rules}
use Rattle.rev_links.proofs.cells.Cells.count.Goals as goal

pub returns : goal.returns
returns g c = search rules steps 500000
