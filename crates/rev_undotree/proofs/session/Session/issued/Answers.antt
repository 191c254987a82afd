use Rattle.std.proofs.Common.{sym}
use Rattle.rev_tree.proofs.Growth.{length_rows}
use Rattle.rev_undotree.proofs.session.Session.issued.Goals as goal

pub returns : goal.returns
returns g c = rw (← c.self.view_is) (sym (length_rows c.self.inside.issued c.self.inside.position.base))
