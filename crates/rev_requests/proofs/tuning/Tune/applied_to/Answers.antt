use Rattle.std.proofs.Common.{rules}
use Rattle.rev_requests.proofs.tuning.Tune.applied_to.Goals as goal

pub returns-clause-value : goal.returns-clause-value
returns-clause-value c = search rules steps 500000
