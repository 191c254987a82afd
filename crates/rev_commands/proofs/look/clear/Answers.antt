use Rattle.std.proofs.Common.{sym, ◌∙◌, subst, arith}
use Rattle.rev_commands.proofs.Looking.{found, missed, look_most, found_look, found_removal}
use Rattle.rev_inverse.specs.Telling.{Tells}
use Rattle.rev_edits.proofs.Telling.{tells_then, append_nil}
use Rattle.rev_model.specs.Causes.{look_removals}
use Rattle.rev_commands.proofs.Leaving.{cleared_by, there, found_clear, missed_clear}
use Rattle.rev_commands.proofs.look.clear.Goals as goal

pub remove-requires-clause-item : goal.remove-requires-clause-item
remove-requires-clause-item g c =
    let l = found c.args.store.now c.args.key.now c.in-Some.chunk (sym c.lookup.ensures.found ∙ c.in-Some.is) in
    (l.item, there c.args.store.now c.lookup.new.store c.args.store.now c.args.key.now c.in-Some.chunk l c.lookup.ensures.state)

pub returns-in-Some-clause-state : goal.returns-in-Some-clause-state
returns-in-Some-clause-state g c =
    let l = found c.args.store.now c.args.key.now c.in-Some.chunk (sym c.lookup.ensures.found ∙ c.in-Some.is) in
    cleared_by c.args.store.now c.lookup.new.store c.remove.new.store c.args.key.now c.in-Some.chunk l c.lookup.ensures.state c.remove.ensures.state

pub returns-in-Some-clause-leads : goal.returns-in-Some-clause-leads
returns-in-Some-clause-leads g c = λ first l. c.remove.ensures.leads first (c.lookup.ensures.leads first l)

pub returns-in-Some-clause-told : goal.returns-in-Some-clause-told
returns-in-Some-clause-told g c =
    let l = found c.args.store.now c.args.key.now c.in-Some.chunk (sym c.lookup.ensures.found ∙ c.in-Some.is) in
    subst (Tells c.args.undo.now c.args.store.now c.remove.new.undo c.remove.new.store) (found_clear c.args.cause c.args.store.now c.lookup.new.store c.args.key.now c.in-Some.chunk l c.lookup.ensures.state)
    (tells_then _ _ _ _ _ _ _ _ c.lookup.ensures.told c.remove.ensures.told)

pub returns-in-None-clause-told : goal.returns-in-None-clause-told
returns-in-None-clause-told g c =
    subst (Tells c.args.undo.now c.args.store.now c.lookup.new.undo c.lookup.new.store) (sym (append_nil (look_removals c.args.store.now c.args.key.now)) ∙ missed_clear c.args.cause c.args.store.now c.args.key.now (missed c.args.store.now c.args.key.now (sym c.in-None.is ∙ c.lookup.ensures.found)))
    c.lookup.ensures.told

pub lookup-requires-clause-room : goal.lookup-requires-clause-room
lookup-requires-clause-room g c = omega (arith, look_most c.args.store.now c.args.key.now, c.requires.room)

pub remove-requires-clause-room : goal.remove-requires-clause-room
remove-requires-clause-room g c =
    let l = found c.args.store.now c.args.key.now c.in-Some.chunk (sym c.lookup.ensures.found ∙ c.in-Some.is) in
    omega (arith, found_look c.args.store.now c.args.key.now c.in-Some.chunk l, found_removal c.args.store.now c.args.key.now c.in-Some.chunk l, c.lookup.ensures.made, c.lookup.ensures.room, c.requires.room)

pub remove-requires-clause-sound : goal.remove-requires-clause-sound
remove-requires-clause-sound g c = (c.requires.sound.0, c.lookup.ensures.sound c.requires.sound.0 c.requires.sound.1)

pub returns-in-Some-clause-sound : goal.returns-in-Some-clause-sound
returns-in-Some-clause-sound g c = λ h sound. c.remove.ensures.sound h (c.lookup.ensures.sound h sound)

pub returns-in-Some-clause-room : goal.returns-in-Some-clause-room
returns-in-Some-clause-room g c = c.remove.ensures.room ∙ c.lookup.ensures.room

pub returns-in-Some-clause-made : goal.returns-in-Some-clause-made
returns-in-Some-clause-made g c =
    let l = found c.args.store.now c.args.key.now c.in-Some.chunk (sym c.lookup.ensures.found ∙ c.in-Some.is) in
    omega (arith, found_look c.args.store.now c.args.key.now c.in-Some.chunk l, found_removal c.args.store.now c.args.key.now c.in-Some.chunk l, c.lookup.ensures.made, c.remove.ensures.made)

pub returns-in-None-clause-made : goal.returns-in-None-clause-made
returns-in-None-clause-made g c = omega (arith, look_most c.args.store.now c.args.key.now, c.lookup.ensures.made)
