use Rattle.std.proofs.lemmas.Result.{on_ok_weaker}
use Rattle.rev_snapshot.proofs.Starting.{tuned}
use Rattle.rev_snapshot.proofs.start.put_shares_of.Goals as goal

pub returns-in-Some : goal.returns-in-Some
returns-in-Some g c = on_ok_weaker c.put_tune.result (tuned _) c.put_tune.ensures
