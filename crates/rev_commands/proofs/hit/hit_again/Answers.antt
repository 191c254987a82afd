use Rattle.std.specs.Prelude.{None}
use Rattle.rev_model.specs.State.{owner_of, item_at}
use Rattle.rev_model.specs.Words.{queue_with}
use Rattle.rev_model.proofs.Places.{glanced}
use Rattle.rev_edits.proofs.Seats.{item_stands}
use Rattle.rev_commands.proofs.hit.hit_again.Goals as goal

pub queue_with-requires-clause-there : goal.queue_with-requires-clause-there
queue_with-requires-clause-there g c =
    let s = c.args.store.now in
    let i = glanced (item_at s c.args.chunk) c.args.item c.requires.item in
    let at = item_stands None s c.requires.sound c.args.chunk i.0 i.1 in
    rw c.owner-class.ensures (queue_with s (owner_of s c.args.chunk.page) c.args.chunk, at.there)
