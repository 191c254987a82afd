use Rattle.std.proofs.Common.{◌≡◌, ◌+◌, length}
use Rattle.rev_intake.specs.Sending.{Passes}
use Rattle.rev_intake.proofs.intake.Intake.empty_import.Given as goal

abbrev pub invariant-loop : goal.invariant-loop
invariant-loop g l = record {
  passes : Passes l.fn.self.waiting l.self.waiting l.fn.self.waits l.self.waits (g.K.Sink.contents l.fn.sink) (g.K.Sink.contents l.sink) (g.K.Sink.failures l.fn.sink)
      (g.K.Sink.failures l.sink);
  left : length l.self.waiting + l.counter ≡ length l.fn.self.waiting;
  counts : l.self.counts ≡ l.fn.self.counts;
}
