use Rattle.std.proofs.Common.{◌≡◌, ◌≤◌, take}
use Rattle.rev_model.specs.Actor.{owned_pages}
use Rattle.rev_mover.proofs.scheduling.pages_of.Given as goal

abbrev pub invariant-loop-page : goal.invariant-loop-page
invariant-loop-page g l = record {
  counted : l.pages ≡ owned_pages l.class (take l.page l.store.owner);
  few : l.pages ≤ l.page;
}
