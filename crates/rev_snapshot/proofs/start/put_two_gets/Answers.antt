use Rattle.std.proofs.lemmas.Result.{on_ok_weaker}
use Rattle.rev_import.proofs.Written.{got, more}
use Rattle.rev_snapshot.proofs.start.put_two_gets.Goals as goal

pub returns : goal.returns
returns g c = on_ok_weaker c.put_get-2.result (λ x. more (got _ c.in_ok-put_get.ensures) (got _ x)) c.put_get-2.ensures
