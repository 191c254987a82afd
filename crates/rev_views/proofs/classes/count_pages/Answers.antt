use Rattle.std.proofs.Common.{◌≡◌, take, arith}
use Rattle.rev_model.specs.Actor.{owned_pages}
use Rattle.rev_views.proofs.Counting.{owned_next}
use Rattle.rev_views.proofs.classes.count_pages.Goals as goal

pub loop-page-preserved : goal.loop-page-preserved
loop-page-preserved g c =
    let told : c.loop-page.count ≡ owned_pages c.args.class (take c.loop-page.page c.args.store.now.owner) = c.loop-page.invariant.told in
    let next = owned_next c.args.class c.args.store.now.owner c.loop-page.page c.owner.result (omega (arith, c.loop-page-test.true, c.made-page-end.ensures)) c.owner.ensures in
    let one = c.page_count-count.ensures.count in
    record { told = omega (arith, told, next, one); few = omega (arith, c.loop-page.invariant.few, c.page_count-count.ensures.within) }
