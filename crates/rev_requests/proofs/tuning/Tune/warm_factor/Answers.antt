use Rattle.std.proofs.Common.{rules}
use Rattle.rev_requests.proofs.tuning.Tune.warm_factor.Goals as goal

pub returns : goal.returns
returns c = search rules steps 500000
