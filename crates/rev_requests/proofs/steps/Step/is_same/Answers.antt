use Rattle.std.proofs.Common.{rules}
use Rattle.rev_requests.proofs.steps.Step.is_same.Goals as goal

pub returns-in_default : goal.returns-in_default
returns-in_default g c = search rules steps 500000

pub returns-in_default-2 : goal.returns-in_default-2
returns-in_default-2 g c = search rules steps 500000

pub returns-in_default-3 : goal.returns-in_default-3
returns-in_default-3 g c = search rules steps 500000
