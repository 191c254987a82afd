use Rattle.std.proofs.Common.{◌≡◌, length, true}
use Rattle.rev_model.specs.Chunk.{same_chunk}
use Rattle.rev_model.specs.Lists.{has_after}
use Rattle.rev_model.specs.State.{free_of}
use Rattle.rev_model.specs.Actor.{spare}
use Rattle.rev_mover.proofs.Walking.{rest_after}
use Rattle.rev_mover.proofs.clearing.spare_chunk.Given as goal

abbrev pub invariant-chunks : goal.invariant-chunks
invariant-chunks g l = record {
  there : has_after same_chunk l.behind (free_of l.store l.class) ≡ true;
  spare : spare l.page (rest_after same_chunk l.behind (free_of l.store l.class)) ≡ spare l.page (free_of l.store l.class);
}

abbrev pub decreases-chunks : goal.decreases-chunks
decreases-chunks g l = length (rest_after same_chunk l.behind (free_of l.store l.class))
