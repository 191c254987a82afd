use Rattle.std.proofs.Common.{◌≡◌, true}
use Rattle.rev_model.specs.Chunk.{same_entry}
use Rattle.rev_model.specs.Lists.{has_after}
use Rattle.rev_model.specs.State.{queue_of}
use Rattle.rev_tests.proofs.memory.pictures.Picture.put_queue.Given as goal

-- the entry that was read last stands in the queue
abbrev pub invariant-entries : goal.invariant-entries
invariant-entries g l = has_after same_entry l.behind (queue_of l.store l.class l.queue) ≡ true
