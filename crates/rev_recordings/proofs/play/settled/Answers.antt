use Rattle.std.proofs.Common.{rules}
use Rattle.rev_recordings.proofs.play.settled.Goals as goal

pub returns-in-Err-clause-err : goal.returns-in-Err-clause-err
returns-in-Err-clause-err c = search rules steps 500000
