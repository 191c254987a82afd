use Rattle.std.proofs.lemmas.Result.{on_ok_weaker}
use Rattle.rev_import.proofs.Written.{actor, then_quiet}
use Rattle.rev_snapshot.proofs.Starting.{quiet_first}
use Rattle.rev_snapshot.proofs.start.put_temp.Goals as goal

pub returns : goal.returns
returns g c = on_ok_weaker c.put_temp_ttl-2.result (λ x. then_quiet (quiet_first (actor _ c.in_ok-put_temp_ttl.ensures) c.in_ok-put_stored.ensures) (actor _ x)) c.put_temp_ttl-2.ensures
