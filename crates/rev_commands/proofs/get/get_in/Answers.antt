use Rattle.std.specs.Prelude.{◌≡◌, ◌+◌, None}
use Rattle.std.proofs.Common.{sym, ◌∙◌, arith, ap}
use Rattle.rev_commands.proofs.Looking.{found, found_look}
use Rattle.rev_commands.specs.Looking.{look_need}
use Rattle.rev_commands.specs.Hitting.{access_need, hit_need}
use Rattle.rev_commands.proofs.Hitting.{access_room, look_access}
use Rattle.rev_commands.proofs.Leaving.{got_by, there}
use Rattle.rev_edits.proofs.Telling.{tells_still}
use Rattle.std.specs.Option.{option_map}
use Rattle.rev_model.specs.Words.{header_of}
use Rattle.rev_commands.proofs.Standing.{found_stands}
use Rattle.rev_commands.proofs.get.get_in.Goals as goal

pub hit-requires-clause-room : goal.hit-requires-clause-room
hit-requires-clause-room g c =
    let s = c.args.store.now in
    let k = c.args.key.now in
    let l = found s k c.in-Some.chunk (sym c.lookup_at.ensures.found ∙ c.in-Some.is) in
    let need : access_need 0 s k ≡ hit_need c.in-Some-header.item.bits + 0 = access_room 0 s c.lookup_at.new.store k c.in-Some.chunk c.in-Some-header.item l c.lookup_at.ensures.state (sym c.header.ensures ∙ c.in-Some-header.is) in
    let none : look_need s k ≡ 0 = found_look s k c.in-Some.chunk l in
    omega (arith, need, none, c.lookup_at.ensures.made, c.lookup_at.ensures.room, c.requires.room)

pub returns-in-Some-header-clause-done : goal.returns-in-Some-header-clause-done
returns-in-Some-header-clause-done g c =
    let l = found c.args.store.now c.args.key.now c.in-Some.chunk (sym c.lookup_at.ensures.found ∙ c.in-Some.is) in
    got_by c.args.store.now c.lookup_at.new.store c.hit.new.store c.args.key.now c.in-Some.chunk l c.lookup_at.ensures.state c.answer-outcome.result c.hit.ensures.state c.answer-outcome.ensures

pub returns-in-Some-header-clause-leads : goal.returns-in-Some-header-clause-leads
returns-in-Some-header-clause-leads g c = λ first l. c.hit.ensures.leads first (c.lookup_at.ensures.leads first l)

pub returns-in-Some-header-clause-made : goal.returns-in-Some-header-clause-made
returns-in-Some-header-clause-made g c =
    let s = c.args.store.now in
    let k = c.args.key.now in
    let l = found s k c.in-Some.chunk (sym c.lookup_at.ensures.found ∙ c.in-Some.is) in
    let need : access_need 0 s k ≡ hit_need c.in-Some-header.item.bits + 0 = access_room 0 s c.lookup_at.new.store k c.in-Some.chunk c.in-Some-header.item l c.lookup_at.ensures.state (sym c.header.ensures ∙ c.in-Some-header.is) in
    let none : look_need s k ≡ 0 = found_look s k c.in-Some.chunk l in
    omega (arith, need, none, c.lookup_at.ensures.made, c.hit.ensures.made)

pub lookup_at-requires-clause-sound : goal.lookup_at-requires-clause-sound
lookup_at-requires-clause-sound g c = (None, c.requires.sound)

pub returns-in-Some-header-clause-sound : goal.returns-in-Some-header-clause-sound
returns-in-Some-header-clause-sound g c = c.hit.ensures.sound

pub returns-in-Some-header-clause-room : goal.returns-in-Some-header-clause-room
returns-in-Some-header-clause-room g c = c.hit.ensures.room ∙ c.lookup_at.ensures.room

pub returns-in-Some-header-clause-told : goal.returns-in-Some-header-clause-told
returns-in-Some-header-clause-told g c = tells_still _ _ _ _ _ _ _ c.lookup_at.ensures.told c.hit.ensures.told

pub hit-requires-clause-sound : goal.hit-requires-clause-sound
hit-requires-clause-sound g c = c.lookup_at.ensures.sound None c.requires.sound

pub hit-requires-clause-item : goal.hit-requires-clause-item
hit-requires-clause-item g c = sym c.header.ensures ∙ c.in-Some-header.is

pub lookup_at-requires-clause-led : goal.lookup_at-requires-clause-led
lookup_at-requires-clause-led g c = found_stands c.args.store.now c.requires.sound.well c.args.key.now c.args.found c.requires.led

pub lookup_at-requires-clause-room : goal.lookup_at-requires-clause-room
lookup_at-requires-clause-room g c = omega (arith, look_access 0 c.args.store.now c.args.key.now, c.requires.room)

pub returns-in_default-clause-done : goal.returns-in_default-clause-done
returns-in_default-clause-done g c =
    let l = found c.args.store.now c.args.key.now c.in-Some.chunk (sym c.lookup_at.ensures.found ∙ c.in-Some.is) in
    let none = sym c.in_default.is ∙ c.header.ensures ∙ ap (option_map header_of) (there c.args.store.now c.lookup_at.new.store c.args.store.now c.args.key.now c.in-Some.chunk l c.lookup_at.ensures.state) in
    absurd (cc)

pub returns-in_default-clause-sound : goal.returns-in_default-clause-sound
returns-in_default-clause-sound g c = c.lookup_at.ensures.sound None c.requires.sound

pub returns-in_default-clause-leads : goal.returns-in_default-clause-leads
returns-in_default-clause-leads g c = c.lookup_at.ensures.leads

pub returns-in_default-clause-room : goal.returns-in_default-clause-room
returns-in_default-clause-room g c = c.lookup_at.ensures.room

pub returns-in_default-clause-made : goal.returns-in_default-clause-made
returns-in_default-clause-made g c = omega (arith, look_access 0 c.args.store.now c.args.key.now, c.lookup_at.ensures.made)

pub returns-in_default-clause-told : goal.returns-in_default-clause-told
returns-in_default-clause-told g c = c.lookup_at.ensures.told

pub returns-in-None-clause-sound : goal.returns-in-None-clause-sound
returns-in-None-clause-sound g c = c.lookup_at.ensures.sound None c.requires.sound

pub returns-in-None-clause-leads : goal.returns-in-None-clause-leads
returns-in-None-clause-leads g c = c.lookup_at.ensures.leads

pub returns-in-None-clause-room : goal.returns-in-None-clause-room
returns-in-None-clause-room g c = c.lookup_at.ensures.room

pub returns-in-None-clause-made : goal.returns-in-None-clause-made
returns-in-None-clause-made g c = omega (arith, look_access 0 c.args.store.now c.args.key.now, c.lookup_at.ensures.made)

pub returns-in-None-clause-told : goal.returns-in-None-clause-told
returns-in-None-clause-told g c = c.lookup_at.ensures.told
