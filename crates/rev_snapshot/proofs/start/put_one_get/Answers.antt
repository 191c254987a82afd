use Rattle.std.proofs.lemmas.Result.{on_ok_weaker}
use Rattle.rev_import.proofs.Written.{got}
use Rattle.rev_snapshot.proofs.start.put_one_get.Goals as goal

pub returns : goal.returns
returns g c = on_ok_weaker c.put_get.result (got _) c.put_get.ensures
