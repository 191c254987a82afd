use Rattle.std.proofs.Common.{rules}
use Rattle.rev_requests.proofs.actors.ActorStep.is_same.Goals as goal

pub returns : goal.returns
returns c = search rules steps 1500000
