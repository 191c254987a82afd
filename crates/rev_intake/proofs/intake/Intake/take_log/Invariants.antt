use Rattle.std.proofs.Common.{◌-◌, ◌^◌}
use Rattle.rev_watch.specs.Reader.{line_count}
use Rattle.rev_intake.proofs.Taken.{IsSoFar}
use Rattle.rev_intake.proofs.intake.Intake.take_log.Given as goal

abbrev pub invariant-lines : goal.invariant-lines
invariant-lines g l =
    IsSoFar (g.S.Source.told) l.fn.log l.log l.fn.self l.self (g.K.Sink.contents l.fn.sink) (g.K.Sink.contents l.sink) (g.K.Sink.failures l.fn.sink)
    (g.K.Sink.failures l.sink)

abbrev pub decreases-lines : goal.decreases-lines
decreases-lines g l = 2 ^ 64 - 1 - line_count l.log
