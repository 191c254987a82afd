use Rattle.std.proofs.Common.{rules}
use Rattle.rev_tree.proofs.naming.mention_both.Goals as goal

pub returns-clause-named : goal.returns-clause-named
returns-clause-named g c = search rules steps 1500000
