use Rattle.std.proofs.Common.{refl}
use Rattle.std.proofs.lemmas.Result.{on_ok_weaker}
use Rattle.rev_import.proofs.Written.{stored}
use Rattle.rev_snapshot.proofs.Starting.{stored_fill}
use Rattle.rev_snapshot.proofs.start.fill.Goals as goal

pub returns : goal.returns
returns g c = on_ok_weaker c.put_store.result (λ x. stored_fill _ _ c.requires (stored _ _ refl x)) c.put_store.ensures
