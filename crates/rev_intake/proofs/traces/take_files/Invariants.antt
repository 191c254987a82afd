use Rattle.std.proofs.Common.{length}
use Rattle.rev_intake.proofs.RowsTaken.{AreTracesTaken}
use Rattle.rev_intake.proofs.traces.take_files.Given as goal

abbrev pub invariant-files : goal.invariant-files
invariant-files g l =
    AreTracesTaken g.F.Read.remaining l.fn.files.items l.rest.items l.fn.intake l.intake (g.K.Sink.contents l.fn.sink) (g.K.Sink.contents l.sink) (g.K.Sink.failures l.fn.sink)
    (g.K.Sink.failures l.sink) l.place

abbrev pub decreases-files : goal.decreases-files
decreases-files g l = length l.rest.items
