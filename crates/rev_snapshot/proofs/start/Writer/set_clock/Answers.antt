use Rattle.std.proofs.lemmas.Result.{on_ok_weaker}
use Rattle.rev_import.proofs.Written.{clock}
use Rattle.rev_snapshot.proofs.start.Writer.set_clock.Goals as goal

pub returns : goal.returns
returns g c = on_ok_weaker c.put_clock.result (clock _) c.put_clock.ensures
