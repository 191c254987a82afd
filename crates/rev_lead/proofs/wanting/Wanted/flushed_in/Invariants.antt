use Rattle.std.specs.Prelude.{◌≡◌, true}
use Rattle.rev_model.specs.Chunk.{same_entry}
use Rattle.rev_model.specs.Lists.{has}
use Rattle.rev_model.specs.State.{queue_of}
use Rattle.rev_lead.proofs.wanting.Wanted.flushed_in.Given as goal

abbrev pub invariant-loop : goal.invariant-loop
invariant-loop g l = record {
  there : has same_entry l.entry (queue_of l.self.store.now l.self.class l.queue) ≡ true;
}
