use Rattle.std.proofs.Common.{sym, ◌∙◌, ap}
use Rattle.rev_model.specs.Chunk.{same_entry}
use Rattle.rev_model.specs.Lists.{has}
use Rattle.rev_model.specs.State.{queue_of, owner_of}
use Rattle.rev_model.specs.Words.{queue_with}
use Rattle.rev_model.specs.declared.Entry.TheVariants.{Chunk}
use Rattle.rev_explain.proofs.Nodes.{seated, place_is}
use Rattle.rev_explain.proofs.explain.find_place.Goals as goal

pub queue_with-queue-requires-clause-there : goal.queue_with-queue-requires-clause-there
queue_with-queue-requires-clause-there g c =
    let w = seated c.args.store.now c.requires c.args.key.now c.in-Some.chunk (sym c.find.ensures ∙ c.in-Some.is) in (
      queue_with c.args.store.now (owner_of c.args.store.now c.in-Some.chunk.page) c.in-Some.chunk,
      ap (λ n. has same_entry (Chunk c.in-Some.chunk) (queue_of c.args.store.now n (queue_with c.args.store.now (owner_of c.args.store.now c.in-Some.chunk.page) c.in-Some.chunk))) c.owner-class.ensures ∙ w.there,
    )

pub returns-in-Some : goal.returns-in-Some
returns-in-Some g c =
    place_is c.args.store.now c.requires c.args.key.now c.in-Some.chunk (sym c.find.ensures ∙ c.in-Some.is) c.owner-class.result c.owner-class.ensures c.queue_with-queue.result c.queue_with-queue.ensures
