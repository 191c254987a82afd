use Rattle.std.proofs.Common.{rules}
use Rattle.rev_requests.proofs.clients.ClientStep.copy.Goals as goal

pub returns-in-Store : goal.returns-in-Store
returns-in-Store g c = search rules
