use Rattle.std.specs.Prelude.{Option}
use Rattle.std.proofs.Common.{sym, ◌∙◌, ap, subst, arith}
use Rattle.rev_items.specs.Plain.{PlainItem}
use Rattle.rev_model.specs.State.{State}
use Rattle.rev_model.specs.Client.{looked_at}
use Rattle.rev_model.specs.Causes.{looked_removals}
use Rattle.rev_model.specs.declared.ChunkRef.{ChunkRef}
use Rattle.rev_inverse.specs.Telling.{Tells}
use Rattle.rev_edits.proofs.Telling.{tells_none}
use Rattle.rev_commands.specs.Looking.{looked_need}
use Rattle.rev_commands.proofs.Looking.{chunk_of}
use Rattle.rev_commands.proofs.Standing.{at_lookup, at_need, at_removals}
use Rattle.rev_commands.proofs.look.lookup_at.Goals as goal

pub look_at-requires-clause-room : goal.look_at-requires-clause-room
look_at-requires-clause-room g c =
    let s = c.args.store.now in
    omega (arith, ap (looked_need s) c.in-Some.is, at_need s c.args.key.now c.args.found c.requires.led, c.requires.room)

pub returns-in-None-clause-state : goal.returns-in-None-clause-state
returns-in-None-clause-state g c =
    let s = c.args.store.now in
    ap (λ (r : State × Option (ChunkRef × PlainItem)). r.0) (sym (ap (looked_at s) c.in-None.is) ∙ at_lookup s c.args.key.now c.args.found c.requires.led)

pub returns-in-None-clause-found : goal.returns-in-None-clause-found
returns-in-None-clause-found g c =
    let s = c.args.store.now in
    ap (λ (r : State × Option (ChunkRef × PlainItem)). chunk_of r.1) (sym (ap (looked_at s) c.in-None.is) ∙ at_lookup s c.args.key.now c.args.found c.requires.led)

pub returns-in-None-clause-made : goal.returns-in-None-clause-made
returns-in-None-clause-made g c =
    let s = c.args.store.now in
    omega (arith, ap (looked_need s) c.in-None.is, at_need s c.args.key.now c.args.found c.requires.led)

pub returns-in-None-clause-told : goal.returns-in-None-clause-told
returns-in-None-clause-told g c =
    let s = c.args.store.now in
    subst (Tells c.args.undo.now s c.args.undo.now s) (sym (ap (looked_removals s) c.in-None.is) ∙ at_removals s c.args.key.now c.args.found c.requires.led) (tells_none c.args.undo.now s)

pub returns-in-Some-clause-state : goal.returns-in-Some-clause-state
returns-in-Some-clause-state g c =
    let s = c.args.store.now in
    c.look_at.ensures.state ∙ ap (λ (r : State × Option (ChunkRef × PlainItem)). r.0) (sym (ap (looked_at s) c.in-Some.is) ∙ at_lookup s c.args.key.now c.args.found c.requires.led)

pub returns-in-Some-clause-found : goal.returns-in-Some-clause-found
returns-in-Some-clause-found g c =
    let s = c.args.store.now in
    c.look_at.ensures.found ∙ ap (λ (r : State × Option (ChunkRef × PlainItem)). chunk_of r.1) (sym (ap (looked_at s) c.in-Some.is) ∙ at_lookup s c.args.key.now c.args.found c.requires.led)

pub returns-in-Some-clause-made : goal.returns-in-Some-clause-made
returns-in-Some-clause-made g c =
    let s = c.args.store.now in
    omega (arith, ap (looked_need s) c.in-Some.is, at_need s c.args.key.now c.args.found c.requires.led, c.look_at.ensures.made)

pub returns-in-Some-clause-told : goal.returns-in-Some-clause-told
returns-in-Some-clause-told g c =
    let s = c.args.store.now in
    subst (Tells c.args.undo.now s c.look_at.new.undo c.look_at.new.store) (sym (ap (looked_removals s) c.in-Some.is) ∙ at_removals s c.args.key.now c.args.found c.requires.led) c.look_at.ensures.told
