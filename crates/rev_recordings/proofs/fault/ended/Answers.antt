use Rattle.std.proofs.Common.{rules}
use Rattle.rev_recordings.proofs.fault.ended.Goals as goal

pub returns-in-Ok-clause-quiet : goal.returns-in-Ok-clause-quiet
returns-in-Ok-clause-quiet g c = search rules steps 500000
