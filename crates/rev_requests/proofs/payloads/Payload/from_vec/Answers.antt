use Rattle.std.proofs.Common.{rules}
use Rattle.rev_requests.proofs.payloads.Payload.from_vec.Goals as goal

pub returns : goal.returns
returns g c = search rules steps 500000
