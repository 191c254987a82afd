use Rattle.std.specs.Prelude.{None}
use Rattle.std.proofs.Common.{rules}
use Rattle.rev_model.specs.State.{owner_of}
use Rattle.rev_model.specs.Words.{dropped, queue_with}
use Rattle.rev_model.specs.declared.Counter.TheVariants as counter
use Rattle.rev_edits.proofs.Seats.{item_stands, owner_class}
use Rattle.rev_edits.proofs.Rest.{sound_of, rest_of, rest-counted, rest-dropped}
use Rattle.rev_commands.proofs.evict.evict_item.Goals as goal

pub discard-requires-clause-stands : goal.discard-requires-clause-stands
discard-requires-clause-stands g c =
    rw (c.queue_with-queue.ensures, c.owner-class.ensures)
    (c.requires.item.0, item_stands None c.args.store.now c.requires.sound c.args.chunk c.requires.item.0 c.requires.item.1)

pub discard-requires-clause-class : goal.discard-requires-clause-class
discard-requires-clause-class g c = rw c.owner-class.ensures (owner_class None c.args.store.now c.requires.sound c.args.chunk c.requires.item.0 c.requires.item.1)

pub returns-clause-sound : goal.returns-clause-sound
returns-clause-sound g c =
    let s = c.args.store.now in
    let d = owner_of s c.args.chunk.page in
    let q = queue_with s d c.args.chunk in
    let i = c.requires.item.0 in
    sound_of None c.discard.new.store c.discard.ensures.well
    (rw (c.discard.ensures.state i c.requires.item.1, c.queue_with-queue.ensures, c.owner-class.ensures)
    (rest-counted None (dropped d q c.args.chunk i s) d counter.Evicted
    (rest-dropped s d q c.args.chunk i None (item_stands None s c.requires.sound c.args.chunk i c.requires.item.1) (rest_of None s c.requires.sound))))

pub queue_with-queue-requires-clause-there : goal.queue_with-queue-requires-clause-there
queue_with-queue-requires-clause-there g c =
    let s = c.args.store.now in
    let at = item_stands None s c.requires.sound c.args.chunk c.requires.item.0 c.requires.item.1 in
    rw c.owner-class.ensures (queue_with s (owner_of s c.args.chunk.page) c.args.chunk, at.there)

pub returns-clause-told : goal.returns-clause-told
returns-clause-told g c = c.discard.ensures.told
