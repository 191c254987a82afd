use Rattle.std.specs.Prelude.{Some, None}
use Rattle.rev_model.specs.Words.{unlinked, queue_with, counted}
use Rattle.rev_edits.proofs.Rest.{sound_of, rest_of, rest-counted}
use Rattle.rev_mover.proofs.Slots.{chunk_stands, rest-unlinked}
use Rattle.std.proofs.Common.{ap, ◌∙◌}
use Rattle.rev_edits.proofs.Telling.{tells_still}
use Rattle.rev_mover.proofs.clearing.remove.Goals as goal

pub queue_with-queue-requires-clause-there : goal.queue_with-queue-requires-clause-there
queue_with-queue-requires-clause-there g c =
    let s = c.args.store.now in
    (queue_with s c.args.class c.args.chunk, (chunk_stands s c.requires.sound c.args.class c.args.chunk c.requires.item.0 c.requires.chunk c.requires.item.1).there)

pub unlink-requires-clause-stands : goal.unlink-requires-clause-stands
unlink-requires-clause-stands g c =
    rw c.queue_with-queue.ensures
    (c.requires.item.0, chunk_stands c.args.store.now c.requires.sound c.args.class c.args.chunk c.requires.item.0 c.requires.chunk c.requires.item.1)

pub returns-clause-sound : goal.returns-clause-sound
returns-clause-sound g c =
    let s = c.args.store.now in
    let d = c.args.class in
    let x = c.args.chunk in
    let i = c.requires.item.0 in
    let q = queue_with s d x in
    sound_of (Some x) c.raise.new.store c.raise.ensures.well
    (rw (c.raise.ensures.state, c.unlink.ensures.state i c.requires.item.1, c.queue_with-queue.ensures)
    (rest-counted (Some x) (unlinked d q x i s) d c.args.counter
    (rest-unlinked s d q x i (chunk_stands s c.requires.sound d x i c.requires.chunk c.requires.item.1) (rest_of None s c.requires.sound))))

pub returns-clause-leads : goal.returns-clause-leads
returns-clause-leads g c = λ first l. c.raise.ensures.leads first (c.unlink.ensures.leads first l)

pub returns-clause-state : goal.returns-clause-state
returns-clause-state g c = λ i e. c.raise.ensures.state ∙ ap (counted c.args.class c.args.counter) (c.unlink.ensures.state i e ∙ ap (λ q. unlinked c.args.class q c.args.chunk i c.args.store.now) c.queue_with-queue.ensures)

pub returns-clause-told : goal.returns-clause-told
returns-clause-told g c = tells_still _ _ _ _ _ _ _ c.unlink.ensures.told c.raise.ensures.told
