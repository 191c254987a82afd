use Rattle.std.proofs.Common.{rules}
use Rattle.rev_recordings.proofs.fault.RecordingFault.of.Goals as goal

pub returns-in-TooLong : goal.returns-in-TooLong
returns-in-TooLong c = search rules steps 500000
