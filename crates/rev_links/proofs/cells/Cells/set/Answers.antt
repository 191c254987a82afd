use Rattle.std.proofs.Common.{rules}
use Rattle.rev_links.proofs.cells.Cells.set.Goals as goal

pub returns-clause-value : goal.returns-clause-value
returns-clause-value g c = search rules steps 1500000
