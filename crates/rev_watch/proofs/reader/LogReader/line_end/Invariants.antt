use Rattle.std.proofs.Common.{◌-◌}
use Rattle.rev_watch.specs.Reader.{Kept}
use Rattle.rev_watch.proofs.reader.LogReader.line_end.Given as goal

abbrev pub invariant-pieces : goal.invariant-pieces
invariant-pieces g l = Kept g.S.Source.told l.fn.self l.self

abbrev pub decreases-pieces : goal.decreases-pieces
decreases-pieces g l = 4097 - (l.self.to - l.self.from)
