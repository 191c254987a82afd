use Rattle.std.proofs.Common.{rules}
use Rattle.rev_items.proofs.is_key.Goals as goal

pub returns-else-few : goal.returns-else-few
returns-else-few c = search rules steps 500000
