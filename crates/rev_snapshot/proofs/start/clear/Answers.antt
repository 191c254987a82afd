use Rattle.std.proofs.lemmas.Result.{on_ok_weaker}
use Rattle.rev_import.proofs.Written.{updated}
use Rattle.rev_snapshot.proofs.Starting.{taken_fill}
use Rattle.rev_snapshot.proofs.start.clear.Goals as goal

pub returns : goal.returns
returns g c = on_ok_weaker c.put_delete.result (λ x. taken_fill c.requires (updated x)) c.put_delete.ensures
