use Rattle.std.specs.Prelude.{Some, None}
use Rattle.rev_model.proofs.Places.{free_in}
use Rattle.rev_model.proofs.Keeps.{keeps-take_free}
use Rattle.rev_edits.proofs.Rest.{sound_of, rest_of}
use Rattle.rev_mover.proofs.Slots.{rest-taken}
use Rattle.rev_mover.proofs.clearing.hold.Goals as goal

pub change-requires-clause-possible : goal.change-requires-clause-possible
change-requires-clause-possible g c =
    let s = c.args.store.now in
    keeps-take_free s c.requires.sound.well c.args.class c.args.chunk (free_in s c.requires.sound.well c.args.class c.requires.class, c.requires.free)

pub returns-clause-sound : goal.returns-clause-sound
returns-clause-sound g c =
    let s = c.args.store.now in
    sound_of (Some c.args.chunk) c.change.new.store c.change.ensures.well
    (rw c.change.ensures.state (rest-taken s c.args.class c.args.chunk (free_in s c.requires.sound.well c.args.class c.requires.class) c.requires.free (rest_of None s c.requires.sound)))
