use Rattle.std.proofs.Common.{◌≡◌, ◌≤◌, take}
use Rattle.rev_model.specs.Actor.{owned_pages}
use Rattle.rev_views.proofs.classes.count_pages.Given as goal

abbrev pub invariant-loop-page : goal.invariant-loop-page
invariant-loop-page g l = record {
  told : l.count ≡ owned_pages l.class (take l.page l.store.owner);
  few : l.count ≤ l.page;
}
