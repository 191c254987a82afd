use Rattle.std.proofs.Common.{add-one}
use Rattle.rev_links.proofs.Grids.{pushed}
use Rattle.rev_index.proofs.item_table.ItemTable.open.Goals as goal

pub loop-preserved : goal.loop-preserved
loop-preserved g c = rw (add-one, c.in_ok-push.ensures.items) (pushed _ (λ v. v.items) c.loop.counter c.loop.invariant)
