use Rattle.std.specs.Prelude.{◌≤◌}
use Rattle.std.proofs.Common.{sym, subst, arith, ◌∙◌}
use Rattle.rev_model.specs.State.{Fixed, IsClass}
use Rattle.rev_model.specs.Sound.{SoundBut}
use Rattle.rev_model.specs.declared.Outcome.TheVariants.{NoChunk}
use Rattle.rev_maintainer.proofs.Rooming.{same_globals_after}
use Rattle.rev_inverse.specs.Telling.{Tells}
use Rattle.rev_edits.proofs.Telling.{tells_then}
use Rattle.rev_requests.specs.Plain.{plain_verb}
use Rattle.rev_commands.proofs.Looking.{removal_less}
use Rattle.rev_commands.specs.Looking.{removal_need}
use Rattle.rev_commands.proofs.Settling.{told_some, told_none, placed_some, placed_none}
use Rattle.rev_commands.proofs.Standing.{still_led}
use Rattle.rev_commands.proofs.place.place.Goals as goal

pub settle-requires-clause-class : goal.settle-requires-clause-class
settle-requires-clause-class g c =
    let same = same_globals_after c.args.store.now c.room.new.store c.args.class c.room.result c.room.ensures.done in
    subst (λ (f : Fixed). IsClass f c.args.class) (sym same.fixed) c.requires.class

pub settle-requires-clause-chunk : goal.settle-requires-clause-chunk
settle-requires-clause-chunk g c = c.room.ensures.chunk c.in-Some.chunk c.in-Some.is

pub settle-requires-clause-fits : goal.settle-requires-clause-fits
settle-requires-clause-fits g c =
    let same = same_globals_after c.args.store.now c.room.new.store c.args.class c.room.result c.room.ensures.done in
    rw same.fixed c.requires.fits

pub settle-requires-clause-led : goal.settle-requires-clause-led
settle-requires-clause-led g c =
    let s = c.args.store.now in
    let same = same_globals_after s c.room.new.store c.args.class c.room.result c.room.ensures.done in
    still_led c.room.result s c.room.new.store c.requires.sound.well c.room.ensures.sound same.keys c.args.item.key c.args.found c.requires.led

pub settle-requires-clause-room : goal.settle-requires-clause-room
settle-requires-clause-room g c =
    let s = c.args.store.now in
    let t = c.room.new.store in
    let k = c.args.item.key in
    let same = same_globals_after s t c.args.class c.room.result c.room.ensures.done in
    let less : removal_need t k ≤ removal_need s k = removal_less s t k (same.keys k) in
    omega (arith, less, c.room.ensures.made, c.room.ensures.room, c.requires.room)

pub returns-in-Some-clause-leads : goal.returns-in-Some-clause-leads
returns-in-Some-clause-leads g c = λ first l. c.settle.ensures.leads first (c.room.ensures.leads first l)

pub returns-in-Some-clause-made : goal.returns-in-Some-clause-made
returns-in-Some-clause-made g c =
    let s = c.args.store.now in
    let t = c.room.new.store in
    let k = c.args.item.key in
    let same = same_globals_after s t c.args.class c.room.result c.room.ensures.done in
    let less : removal_need t k ≤ removal_need s k = removal_less s t k (same.keys k) in
    omega (arith, less, c.room.ensures.made, c.settle.ensures.made)

pub returns-in-Some-clause-told : goal.returns-in-Some-clause-told
returns-in-Some-clause-told g c =
    subst (Tells c.args.undo.now c.args.store.now c.settle.new.undo c.settle.new.store) (told_some c.args.store.now c.room.new.store (plain_verb c.args.verb) c.args.class c.args.item.key c.room.result c.in-Some.chunk c.room.ensures.done c.in-Some.is)
    (tells_then _ _ _ _ _ _ _ _ c.room.ensures.told c.settle.ensures.told)

pub returns-in-None-clause-told : goal.returns-in-None-clause-told
returns-in-None-clause-told g c =
    subst (Tells c.args.undo.now c.args.store.now c.give_up.new.undo c.give_up.new.store) (told_none c.args.store.now c.room.new.store (plain_verb c.args.verb) c.args.class c.key.result.now c.args.item.key c.room.result c.room.ensures.done c.in-None.is c.key.ensures)
    (tells_then _ _ _ _ _ _ _ _ c.room.ensures.told c.give_up.ensures.told)

pub returns-in-None-clause-done : goal.returns-in-None-clause-done
returns-in-None-clause-done g c =
    placed_none c.args.store.now c.room.new.store (plain_verb c.args.verb) c.args.class c.args.item c.room.result c.key.result.now (c.give_up.new.store, NoChunk) c.room.ensures.done c.in-None.is c.key.ensures (c.give_up.ensures.done NoChunk)

pub returns-in-Some-clause-done : goal.returns-in-Some-clause-done
returns-in-Some-clause-done g c =
    placed_some c.args.store.now c.room.new.store (plain_verb c.args.verb) c.args.class c.args.item c.room.result c.in-Some.chunk (c.settle.new.store, c.settle.result) c.room.ensures.done c.in-Some.is c.settle.ensures.done

pub settle-requires-clause-sound : goal.settle-requires-clause-sound
settle-requires-clause-sound g c = subst (λ o. SoundBut o c.room.new.store) c.in-Some.is c.room.ensures.sound

pub returns-in-Some-clause-sound : goal.returns-in-Some-clause-sound
returns-in-Some-clause-sound g c = c.settle.ensures.sound

pub returns-in-Some-clause-room : goal.returns-in-Some-clause-room
returns-in-Some-clause-room g c = c.settle.ensures.room ∙ c.room.ensures.room

pub returns-in-None-clause-sound : goal.returns-in-None-clause-sound
returns-in-None-clause-sound g c = c.give_up.ensures.sound

pub returns-in-None-clause-room : goal.returns-in-None-clause-room
returns-in-None-clause-room g c = c.give_up.ensures.room ∙ c.room.ensures.room

pub returns-in-None-clause-leads : goal.returns-in-None-clause-leads
returns-in-None-clause-leads g c = λ first l. c.give_up.ensures.leads first (c.room.ensures.leads first l)
