use Rattle.std.proofs.Common.{rules}
use Rattle.rev_items.proofs.Key.new.Goals as goal

pub returns-then-not-is_key-clause-bad : goal.returns-then-not-is_key-clause-bad
returns-then-not-is_key-clause-bad g c = search rules steps 500000
