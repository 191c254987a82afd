use Rattle.std.proofs.Common.{rules}
use Rattle.rev_model.specs.State.{owner_of}
use Rattle.rev_model.specs.Words.{queue_with}
use Rattle.rev_edits.proofs.Seats.{item_stands}
use Rattle.rev_edits.proofs.Rest.{sound_of, rest_of, rest-dropped}
use Rattle.rev_commands.proofs.look.remove.Goals as goal

pub drop_item-requires-clause-stands : goal.drop_item-requires-clause-stands
drop_item-requires-clause-stands g c =
    rw (c.queue_with-queue.ensures, c.owner-class.ensures)
    (c.requires.item.0, item_stands c.requires.sound.0 c.args.store.now c.requires.sound.1 c.args.chunk c.requires.item.0 c.requires.item.1)

pub returns-clause-sound : goal.returns-clause-sound
returns-clause-sound g c = λ h sound.
    let s = c.args.store.now in
    let d = owner_of s c.args.chunk.page in
    let i = c.requires.item.0 in
    sound_of h c.drop_item.new.store c.drop_item.ensures.well
    (rw (c.drop_item.ensures.state i c.requires.item.1, c.queue_with-queue.ensures, c.owner-class.ensures)
    (rest-dropped s d (queue_with s d c.args.chunk) c.args.chunk i h (item_stands h s sound c.args.chunk i c.requires.item.1) (rest_of h s sound)))

pub queue_with-queue-requires-clause-there : goal.queue_with-queue-requires-clause-there
queue_with-queue-requires-clause-there g c =
    let s = c.args.store.now in
    let at = item_stands c.requires.sound.0 s c.requires.sound.1 c.args.chunk c.requires.item.0 c.requires.item.1 in
    rw c.owner-class.ensures (queue_with s (owner_of s c.args.chunk.page) c.args.chunk, at.there)

pub returns-clause-told : goal.returns-clause-told
returns-clause-told g c = search rules steps 1500000
