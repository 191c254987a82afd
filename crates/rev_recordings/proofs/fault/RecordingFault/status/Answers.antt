use Rattle.std.proofs.Common.{rules}
use Rattle.rev_recordings.proofs.fault.RecordingFault.status.Goals as goal

pub returns-in-NotAStep-clause-status : goal.returns-in-NotAStep-clause-status
returns-in-NotAStep-clause-status c = search rules steps 500000
