use Rattle.std.proofs.lemmas.Grind.{common_steps}
use Rattle.std.proofs.Common.{arith}
use Rattle.rev_model.specs.State.{queue_place}
use Rattle.rev_queues.proofs.Entries.{entries-taken}
use Rattle.rev_inverse.proofs.Fits.{fitted_taken}
use Rattle.rev_inverse.proofs.store.Store.take.Goals as goal

pub invariant_of-self-in-InQueue : goal.invariant_of-self-in-InQueue
invariant_of-self-in-InQueue g c =
    fitted_taken _ _ _ _ _ c.self.invariant _ (queue_place c.in-InQueue.class c.in-InQueue.queue) c.in-InQueue.entry c.take_entry-before.ensures.after

pub returns-in-InQueue-clause-state : goal.returns-in-InQueue-clause-state
returns-in-InQueue-clause-state g c =
    rw (c.take_entry-before.ensures.after, c.in-InQueue.is, ← c.self.view_is, entries-taken)

pub returns-in-InQueue-clause-reverse : goal.returns-in-InQueue-clause-reverse
returns-in-InQueue-clause-reverse g c = grind (arith, common_steps) steps 1200000
