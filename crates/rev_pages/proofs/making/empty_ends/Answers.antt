use Rattle.rev_pages.proofs.Opening.{count_more, empty_more}
use Rattle.rev_pages.proofs.making.empty_ends.Goals as goal

pub loop-class-preserved : goal.loop-class-preserved
loop-class-preserved g c = record {
  count = count_more _ _ _ c.in_ok-push.ensures.items c.loop-class.invariant.count;
  empty = empty_more _ _ _ c.in_ok-push.ensures.items c.loop-class.invariant.count c.loop-class.invariant.empty;
}
