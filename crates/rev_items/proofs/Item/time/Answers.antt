use Rattle.std.proofs.Common.{rules}
use Rattle.rev_items.proofs.Item.time.Goals as goal

pub returns : goal.returns
returns g c = search rules steps 500000
