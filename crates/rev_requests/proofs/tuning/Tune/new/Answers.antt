use Rattle.std.proofs.Common.{rules}
use Rattle.rev_requests.proofs.tuning.Tune.new.Goals as goal

pub invariant_of-result : goal.invariant_of-result
invariant_of-result c = search rules steps 500000

pub returns-clause-ok : goal.returns-clause-ok
returns-clause-ok c = search rules steps 500000
