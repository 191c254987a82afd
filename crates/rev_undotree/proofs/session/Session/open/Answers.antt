use Rattle.std.proofs.Common.{arith}
use Rattle.rev_undotree.proofs.Mentioned.{open_noted}
use Rattle.rev_tree.proofs.Indexes.{index_opened}
use Rattle.rev_tree.proofs.Growth.{open_kept, open_state}
use Rattle.rev_undotree.proofs.session.Session.open.Goals as goal

pub invariant_of-result : goal.invariant_of-result
invariant_of-result g c = open_noted _ _ _ _ _ _ (open_kept c.args.store c.in-Ok-root.base c.new-3.result.items c.requires c.in-Ok-root.ensures c.new-3.ensures) c.in-Ok-new.ensures (index_opened _ c.in-Ok-root.base c.in-Ok.ensures c.in-Ok-root.ensures)

pub returns-clause-ok : goal.returns-clause-ok
returns-clause-ok g c = open_state c.args.store c.in-Ok-root.base c.new-3.result.items c.in-Ok-root.ensures c.new-3.ensures

pub new-requires-3 : goal.new-requires-3
new-requires-3 g c = omega arith
