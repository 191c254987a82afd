use Rattle.std.proofs.Common.{length}
use Rattle.rev_intake.proofs.Taken.{IsGiven}
use Rattle.rev_intake.proofs.intake.Intake.empty_window.Given as goal

abbrev pub invariant-held : goal.invariant-held
invariant-held g l =
    IsGiven l.fn.self l.self (g.K.Sink.contents l.fn.sink) (g.K.Sink.contents l.sink) (g.K.Sink.failures l.fn.sink) (g.K.Sink.failures l.sink)

abbrev pub decreases-held : goal.decreases-held
decreases-held g l = length l.self.window.held
