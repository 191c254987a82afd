use Rattle.std.proofs.Common.{rules}
use Rattle.rev_links.proofs.ticks.Ticks.tick.Goals as goal

pub returns : goal.returns
returns g c = search rules steps 500000
