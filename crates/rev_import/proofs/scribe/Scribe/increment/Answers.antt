use Rattle.std.proofs.lemmas.Result.{on_ok_weaker}
use Rattle.rev_import.proofs.Written.{updated, then_quiet}
use Rattle.rev_import.proofs.scribe.Scribe.increment.Goals as goal

pub returns : goal.returns
returns g c = on_ok_weaker c.maintain.result (λ x. then_quiet (updated c.in_ok-put_increment.ensures) x) c.maintain.ensures
