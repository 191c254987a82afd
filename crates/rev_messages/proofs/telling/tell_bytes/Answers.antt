use Rattle.rev_messages.proofs.Parts.{told_by}
use Rattle.rev_messages.proofs.telling.tell_bytes.Goals as goal

pub returns : goal.returns
returns g c = told_by c.write_all.result _ _ _ _ _ c.write_all.ensures.ok c.write_all.ensures.err
