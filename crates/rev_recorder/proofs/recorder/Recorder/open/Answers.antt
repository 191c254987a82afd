use Rattle.std.proofs.Common.{rules}
use Rattle.rev_recorder.proofs.recorder.Recorder.open.Goals as goal

pub returns-clause-ok : goal.returns-clause-ok
returns-clause-ok c = search rules steps 4000000
