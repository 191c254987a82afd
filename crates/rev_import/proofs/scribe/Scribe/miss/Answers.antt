use Rattle.std.proofs.lemmas.Result.{on_ok_weaker}
use Rattle.rev_import.proofs.Written.{more}
use Rattle.rev_import.proofs.scribe.Scribe.miss.Goals as goal

pub returns : goal.returns
returns g c = rw c.if-guess.false (on_ok_weaker c.get.result (λ x. more c.in_ok-drop_key.ensures x) c.get.ensures)
