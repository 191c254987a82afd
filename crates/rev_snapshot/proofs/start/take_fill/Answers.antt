use Rattle.rev_snapshot.proofs.Starting.{no_fills}
use Rattle.rev_snapshot.proofs.start.take_fill.Goals as goal

pub returns-in-None : goal.returns-in-None
returns-in-None g c = no_fills _
