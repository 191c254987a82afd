use Rattle.std.proofs.Common.{rules}
use Rattle.rev_tree.proofs.mentions.Mentions.new.Goals as goal

pub invariant_of-result : goal.invariant_of-result
invariant_of-result g c = search rules steps 1500000

pub returns : goal.returns
returns g c = search rules steps 500000
