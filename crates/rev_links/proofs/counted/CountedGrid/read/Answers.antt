use Rattle.std.proofs.Common.{rules}
use Rattle.rev_links.proofs.counted.CountedGrid.read.Goals as goal

pub returns-clause-cost : goal.returns-clause-cost
returns-clause-cost g c = search rules steps 500000
