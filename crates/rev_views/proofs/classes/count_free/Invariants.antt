use Rattle.std.proofs.Common.{◌≡◌, ◌+◌, length, true}
use Rattle.rev_model.specs.Chunk.{same_chunk}
use Rattle.rev_model.specs.Lists.{has_after}
use Rattle.rev_model.specs.State.{free_of}
use Rattle.rev_views.specs.Classes.{shown}
use Rattle.rev_views.proofs.Walk.{rest_after}
use Rattle.rev_views.proofs.classes.count_free.Given as goal

-- the chunks that are left are those that are not counted yet
abbrev pub invariant-chunks : goal.invariant-chunks
invariant-chunks g l = record {
  there : has_after same_chunk l.behind (free_of l.store l.class) ≡ true;
  told : shown (l.count + length (rest_after same_chunk l.behind (free_of l.store l.class))) ≡ shown (length (free_of l.store l.class));
  within : l.count ≡ shown l.count;
}

abbrev pub decreases-chunks : goal.decreases-chunks
decreases-chunks g l = length (rest_after same_chunk l.behind (free_of l.store l.class))
