use Rattle.std.proofs.Common.{◌-◌, ◌^◌}
use Rattle.rev_trace.specs.Trace.{row_count}
use Rattle.rev_intake.proofs.RowsTaken.{IsSoFarRows}
use Rattle.rev_intake.proofs.rows.RowIntake.take_trace.Given as goal

abbrev pub invariant-rows : goal.invariant-rows
invariant-rows g l =
    IsSoFarRows g.F.Read.remaining (g.F.Read.remaining l.fn.file) l.trace l.fn.self l.self (g.K.Sink.contents l.fn.sink) (g.K.Sink.contents l.sink) (g.K.Sink.failures l.fn.sink)
    (g.K.Sink.failures l.sink)

abbrev pub decreases-rows : goal.decreases-rows
decreases-rows g l = 2 ^ 64 - 1 - row_count l.trace
