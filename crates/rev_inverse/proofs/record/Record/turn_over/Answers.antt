use Rattle.std.proofs.Common.{map}
use Rattle.rev_inverse.proofs.Lists.{turned-over}
use Rattle.rev_inverse.specs.Record.{plain_change}
use Rattle.rev_inverse.proofs.record.Record.turn_over.Goals as goal

pub returns-clause-changes : goal.returns-clause-changes
returns-clause-changes g c = rw (← c.self.view_is) (turned-over c.self.inside.is_turned (map plain_change c.self.inside.moves.items))
