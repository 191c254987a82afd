use Rattle.rev_program.proofs.Grows.{stands_last}
use Rattle.rev_program.proofs.scripted.from_begin.Goals as goal

pub returns-in-Ok : goal.returns-in-Ok
returns-in-Ok g c = stands_last _ _ c.standing.result.opened c.in-Ok.ensures.grown c.standing.ensures.session c.standing.ensures.told c.standing.ensures.log
