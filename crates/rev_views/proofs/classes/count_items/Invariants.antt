use Rattle.std.proofs.Common.{◌≡◌, ◌+◌, length, true}
use Rattle.rev_model.specs.Chunk.{same_entry}
use Rattle.rev_model.specs.Lists.{has_after}
use Rattle.rev_model.specs.State.{queue_of}
use Rattle.rev_views.specs.Classes.{shown, items_in}
use Rattle.rev_views.proofs.Walk.{rest_after}
use Rattle.rev_views.proofs.classes.count_items.Given as goal

-- the entries that are left are those that are not counted yet
abbrev pub invariant-entries : goal.invariant-entries
invariant-entries g l = record {
  there : has_after same_entry l.behind (queue_of l.store l.class l.queue) ≡ true;
  told : shown (l.count + items_in (rest_after same_entry l.behind (queue_of l.store l.class l.queue))) ≡ shown (items_in (queue_of l.store l.class l.queue));
  within : l.count ≡ shown l.count;
}

abbrev pub decreases-entries : goal.decreases-entries
decreases-entries g l = length (rest_after same_entry l.behind (queue_of l.store l.class l.queue))
