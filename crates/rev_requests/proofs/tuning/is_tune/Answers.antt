use Rattle.std.proofs.Common.{rules}
use Rattle.rev_requests.proofs.tuning.is_tune.Goals as goal

pub returns-then-both : goal.returns-then-both
returns-then-both c = search rules steps 500000
