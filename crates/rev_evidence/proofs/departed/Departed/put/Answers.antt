use Rattle.rev_evidence.proofs.Parts.{put_in}
use Rattle.rev_evidence.proofs.departed.Departed.put.Goals as goal

pub returns-clause-ok : goal.returns-clause-ok
returns-clause-ok g c = put_in c.args.key c.args.told c.self.inside.late.entries _ c.self.inside.early.entries _ c.in_ok-insert.ensures.entries c.self.view_is
