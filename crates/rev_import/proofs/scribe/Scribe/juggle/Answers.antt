use Rattle.std.proofs.lemmas.Result.{on_ok_weaker}
use Rattle.rev_import.proofs.Written.{actor, more}
use Rattle.rev_import.proofs.scribe.Scribe.juggle.Goals as goal

pub returns : goal.returns
returns g c = on_ok_weaker c.put_pull-2.result (λ x. more (actor _ c.in_ok-put_pull.ensures) (actor _ x)) c.put_pull-2.ensures
