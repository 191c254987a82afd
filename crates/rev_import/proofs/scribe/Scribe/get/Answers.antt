use Rattle.std.proofs.lemmas.Result.{on_ok_weaker}
use Rattle.rev_import.proofs.Written.{got, then_quiet}
use Rattle.rev_import.proofs.scribe.Scribe.get.Goals as goal

pub returns : goal.returns
returns g c = on_ok_weaker c.maintain.result (λ x. then_quiet (got _ c.in_ok-put_get.ensures) x) c.maintain.ensures
