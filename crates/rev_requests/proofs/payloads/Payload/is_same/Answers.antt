use Rattle.std.proofs.Common.{rules}
use Rattle.rev_requests.proofs.payloads.Payload.is_same.Goals as goal

pub returns-in-Skipped-Skipped : goal.returns-in-Skipped-Skipped
returns-in-Skipped-Skipped g c = search rules steps 500000
