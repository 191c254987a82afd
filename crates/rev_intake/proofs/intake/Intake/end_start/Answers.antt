use Rattle.rev_intake.proofs.Splitting.{ended_of}
use Rattle.rev_intake.proofs.intake.Intake.end_start.Goals as goal

pub returns-clause-ended : goal.returns-clause-ended
returns-clause-ended g c = rw c.figures.ensures (ended_of c.args.self.now c.self.view_is c.in_ok-send.ensures.rest)
