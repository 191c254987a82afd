use Rattle.std.proofs.lemmas.Result.{on_ok_weaker}
use Rattle.rev_import.proofs.Written.{actor}
use Rattle.rev_import.proofs.scribe.Scribe.bump.Goals as goal

pub returns : goal.returns
returns g c = on_ok_weaker c.put_bump.result (actor _) c.put_bump.ensures
