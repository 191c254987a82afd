use Rattle.std.proofs.Common.{rules}
use Rattle.rev_views.proofs.tree.put_forward.Goals as goal

pub returns-in-Err-clause-text : goal.returns-in-Err-clause-text
returns-in-Err-clause-text g c = search rules steps 500000
