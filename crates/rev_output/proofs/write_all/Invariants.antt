use Rattle.std.proofs.Common.{◌≡◌, ◌≤◌, ◌-◌, length, take}
use Rattle.std.specs.Io.KnownBytes.{Appends}
use Rattle.rev_output.proofs.write_all.Given as goal

abbrev pub invariant-loop-from : goal.invariant-loop-from
invariant-loop-from g l = (l.from ≤ length l.text) × Appends (g.K.Sink.contents l.fn.sink) (g.K.Sink.contents l.sink) (take l.from l.text)
    × (g.K.Sink.failures l.sink ≡ g.K.Sink.failures l.fn.sink) × (g.K.Sink.identity l.sink ≡ g.K.Sink.identity l.fn.sink)

abbrev pub decreases-loop-from : goal.decreases-loop-from
decreases-loop-from g l = length l.text - l.from
