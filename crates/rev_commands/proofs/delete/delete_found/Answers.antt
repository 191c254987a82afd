use Rattle.std.proofs.Common.{sym, ◌∙◌, subst, rules, arith}
use Rattle.rev_commands.proofs.Looking.{found, missed, look_most, found_look, found_removal}
use Rattle.std.specs.Prelude.{Some, None}
use Rattle.rev_model.specs.declared.Cause.TheVariants.{Deleted}
use Rattle.rev_inverse.specs.Telling.{Tells}
use Rattle.rev_edits.proofs.Telling.{tells_then, append_nil}
use Rattle.rev_model.specs.Causes.{look_removals}
use Rattle.rev_commands.proofs.Leaving.{deleted_by, found_clear, missed_clear, there}
use Rattle.rev_commands.proofs.Standing.{found_stands}
use Rattle.rev_commands.proofs.delete.delete_found.Goals as goal

pub returns-in-Some-clause-done : goal.returns-in-Some-clause-done
returns-in-Some-clause-done g c =
    let l = found c.args.store.now c.args.key.now c.in-Some.chunk (sym c.lookup_at.ensures.found ∙ c.in-Some.is) in
    deleted_by c.args.store.now c.lookup_at.new.store c.remove.new.store c.args.key.now c.in-Some.chunk l c.lookup_at.ensures.state c.remove.ensures.state

pub returns-in-Some-clause-leads : goal.returns-in-Some-clause-leads
returns-in-Some-clause-leads g c = λ first l. c.remove.ensures.leads first (c.lookup_at.ensures.leads first l)

pub returns-in-Some-clause-told : goal.returns-in-Some-clause-told
returns-in-Some-clause-told g c =
    let l = found c.args.store.now c.args.key.now c.in-Some.chunk (sym c.lookup_at.ensures.found ∙ c.in-Some.is) in
    subst (Tells c.args.undo.now c.args.store.now c.remove.new.undo c.remove.new.store) (found_clear (Some Deleted) c.args.store.now c.lookup_at.new.store c.args.key.now c.in-Some.chunk l c.lookup_at.ensures.state)
    (tells_then _ _ _ _ _ _ _ _ c.lookup_at.ensures.told c.remove.ensures.told)

pub returns-in-None-clause-told : goal.returns-in-None-clause-told
returns-in-None-clause-told g c =
    subst (Tells c.args.undo.now c.args.store.now c.lookup_at.new.undo c.lookup_at.new.store) (sym (append_nil (look_removals c.args.store.now c.args.key.now)) ∙ missed_clear (Some Deleted) c.args.store.now c.args.key.now (missed c.args.store.now c.args.key.now (sym c.in-None.is ∙ c.lookup_at.ensures.found)))
    c.lookup_at.ensures.told

pub returns-in-None-clause-done : goal.returns-in-None-clause-done
returns-in-None-clause-done g c = search rules steps 1500000

pub lookup_at-requires-clause-sound : goal.lookup_at-requires-clause-sound
lookup_at-requires-clause-sound g c = (None, c.requires.sound)

pub lookup_at-requires-clause-led : goal.lookup_at-requires-clause-led
lookup_at-requires-clause-led g c = found_stands c.args.store.now c.requires.sound.well c.args.key.now c.args.found c.requires.led

pub lookup_at-requires-clause-room : goal.lookup_at-requires-clause-room
lookup_at-requires-clause-room g c = omega (arith, look_most c.args.store.now c.args.key.now, c.requires.room)

pub remove-requires-clause-sound : goal.remove-requires-clause-sound
remove-requires-clause-sound g c = (None, c.lookup_at.ensures.sound None c.requires.sound)

pub remove-requires-clause-item : goal.remove-requires-clause-item
remove-requires-clause-item g c =
    let l = found c.args.store.now c.args.key.now c.in-Some.chunk (sym c.lookup_at.ensures.found ∙ c.in-Some.is) in
    (l.item, there c.args.store.now c.lookup_at.new.store c.args.store.now c.args.key.now c.in-Some.chunk l c.lookup_at.ensures.state)

pub remove-requires-clause-room : goal.remove-requires-clause-room
remove-requires-clause-room g c =
    let l = found c.args.store.now c.args.key.now c.in-Some.chunk (sym c.lookup_at.ensures.found ∙ c.in-Some.is) in
    omega (arith, found_look c.args.store.now c.args.key.now c.in-Some.chunk l, found_removal c.args.store.now c.args.key.now c.in-Some.chunk l, c.lookup_at.ensures.made, c.lookup_at.ensures.room, c.requires.room)

pub returns-in-Some-clause-sound : goal.returns-in-Some-clause-sound
returns-in-Some-clause-sound g c = c.remove.ensures.sound None (c.lookup_at.ensures.sound None c.requires.sound)

pub returns-in-None-clause-sound : goal.returns-in-None-clause-sound
returns-in-None-clause-sound g c = c.lookup_at.ensures.sound None c.requires.sound

pub returns-in-Some-clause-room : goal.returns-in-Some-clause-room
returns-in-Some-clause-room g c = c.remove.ensures.room ∙ c.lookup_at.ensures.room

pub returns-in-Some-clause-made : goal.returns-in-Some-clause-made
returns-in-Some-clause-made g c =
    let l = found c.args.store.now c.args.key.now c.in-Some.chunk (sym c.lookup_at.ensures.found ∙ c.in-Some.is) in
    omega (arith, found_look c.args.store.now c.args.key.now c.in-Some.chunk l, found_removal c.args.store.now c.args.key.now c.in-Some.chunk l, c.lookup_at.ensures.made, c.remove.ensures.made)

pub returns-in-None-clause-made : goal.returns-in-None-clause-made
returns-in-None-clause-made g c = omega (arith, look_most c.args.store.now c.args.key.now, c.lookup_at.ensures.made)
