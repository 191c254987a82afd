use Rattle.std.proofs.Common.{rules}
use Rattle.rev_items.proofs.Item.touch.Goals as goal

pub returns-clause-new : goal.returns-clause-new
returns-clause-new g c = search rules steps 500000
