use Rattle.rev_model.specs.Actor.{Client}
use Rattle.rev_lines.proofs.Putting.{puts, client_has}
use Rattle.rev_lines.proofs.client.put_client.Goals as goal

pub returns-in_ok-put_keyed-in-Keyed : goal.returns-in_ok-put_keyed-in-Keyed
returns-in_ok-put_keyed-in-Keyed g c = rw c.in-Keyed.is (puts _ _ (Client _) (client_has _ c.in_ok-put_keyed-in-Keyed.ensures.line) c.in_ok-put_keyed-in-Keyed.ensures.text)
