use Rattle.std.specs.Prelude.{Some}
use Rattle.std.proofs.Common.{sym, ◌∙◌}
use Rattle.rev_model.proofs.Places.{free_in}
use Rattle.rev_edits.proofs.Rest.{sound_of}
use Rattle.rev_edits.proofs.Taking.{front_take, front_rest, front_chunk}
use Rattle.rev_edits.proofs.enter.take_front.Goals as goal

pub change-requires-clause-possible : goal.change-requires-clause-possible
change-requires-clause-possible g c =
    front_take c.args.store.now c.requires.sound.well c.args.class (free_in c.args.store.now c.requires.sound.well c.args.class c.requires.class) c.in-Some.chunk (sym c.in-Some.is ∙ c.front.ensures)

pub returns-in-Some-clause-sound : goal.returns-in-Some-clause-sound
returns-in-Some-clause-sound g c =
    sound_of (Some c.in-Some.chunk) c.change.new.store c.change.ensures.well
    (rw c.change.ensures.state (front_rest c.args.store.now c.args.class (free_in c.args.store.now c.requires.sound.well c.args.class c.requires.class) c.in-Some.chunk (sym c.in-Some.is ∙ c.front.ensures) c.requires.sound))

pub returns-in-Some-clause-chunk : goal.returns-in-Some-clause-chunk
returns-in-Some-clause-chunk g c = λ x e. rw c.change.ensures.state (front_chunk c.args.store.now c.requires.sound.well c.args.class c.in-Some.chunk (sym c.in-Some.is ∙ c.front.ensures) x e)
