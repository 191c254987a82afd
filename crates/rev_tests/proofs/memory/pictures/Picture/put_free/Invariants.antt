use Rattle.std.proofs.Common.{◌≡◌, true}
use Rattle.rev_model.specs.Chunk.{same_chunk}
use Rattle.rev_model.specs.Lists.{has_after}
use Rattle.rev_model.specs.State.{free_of}
use Rattle.rev_tests.proofs.memory.pictures.Picture.put_free.Given as goal

-- the chunk that was read last is free
abbrev pub invariant-chunks : goal.invariant-chunks
invariant-chunks g l = has_after same_chunk l.behind (free_of l.store l.class) ≡ true
