use Rattle.std.proofs.Common.{arith, None}
use Rattle.std.proofs.lemmas.List.{length_push}
use Rattle.rev_index.proofs.Kept.{none_pushed}
use Rattle.rev_index.proofs.making.no_items.Goals as goal

pub loop-preserved : goal.loop-preserved
loop-preserved g c = record {
  count = rw c.in_ok-push.ensures.items (omega (arith, length_push c.loop.items.items None, c.loop.invariant.count));
  none = rw c.in_ok-push.ensures.items (none_pushed _ c.loop.invariant.none);
}
