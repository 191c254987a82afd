use Rattle.std.proofs.Common.{None}
use Rattle.rev_program.proofs.Places.{opens, opens_at}
use Rattle.rev_program.proofs.placed.from_begin.Goals as goal

pub returns-after-life : goal.returns-after-life
returns-after-life g c = opens _ None c.finished.result (opens_at _ None c.in-Ok.grown c.finished.result c.in-Ok.ensures.grown c.finished.ensures.session c.finished.ensures.log)
