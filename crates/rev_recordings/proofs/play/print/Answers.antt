use Rattle.std.proofs.Common.{rules, refl}
use Rattle.rev_recordings.proofs.play.print.Goals as goal

pub returns-in-Ok-flush-clause-ok : goal.returns-in-Ok-flush-clause-ok
returns-in-Ok-flush-clause-ok g c = search rules steps 4000000

pub returns-clause-err : goal.returns-clause-err
returns-clause-err g c = (search rules, λ other. absurd (other refl))
