use Rattle.std.proofs.Common.{rules}
use Rattle.rev_links.proofs.counted.CountedGrid.edit.Goals as goal

pub returns : goal.returns
returns g c = search rules steps 4000000
