use Rattle.std.proofs.Common.{rules}
use Rattle.rev_views.proofs.reasons.put_why.Goals as goal

pub returns-in-Never : goal.returns-in-Never
returns-in-Never g c = search rules steps 500000
