use Rattle.std.proofs.Common.{rules}
use Rattle.rev_index.proofs.index.header_of.Goals as goal

pub returns : goal.returns
returns g c = search rules steps 500000
