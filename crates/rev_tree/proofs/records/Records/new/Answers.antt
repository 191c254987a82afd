use Rattle.std.proofs.Common.{rules}
use Rattle.rev_tree.proofs.records.Records.new.Goals as goal

pub invariant_of-result : goal.invariant_of-result
invariant_of-result g c = search rules steps 1500000
