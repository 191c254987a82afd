use Rattle.std.proofs.Common.{rules}
use Rattle.rev_items.proofs.Key.is_same.Goals as goal

pub returns-then-hash : goal.returns-then-hash
returns-then-hash g c = search rules steps 500000
