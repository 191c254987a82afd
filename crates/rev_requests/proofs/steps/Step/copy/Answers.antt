use Rattle.std.proofs.Common.{rules}
use Rattle.rev_requests.proofs.steps.Step.copy.Goals as goal

pub returns-in-Actor : goal.returns-in-Actor
returns-in-Actor g c = search rules steps 500000
