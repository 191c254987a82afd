use Rattle.std.proofs.Common.{refl}
use Rattle.rev_intake.proofs.intake.Intake.start_lines.Goals as goal

pub returns-in-None : goal.returns-in-None
returns-in-None g c = rw (← c.self.view_is, c.in-None.is) refl
