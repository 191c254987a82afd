use Rattle.std.specs.Prelude.{◌≡◌, ◌+◌, ◌++◌, ◌≤◌, Some}
use Rattle.std.proofs.Common.{arith, subst, ◌∙◌}
use Rattle.rev_model.specs.State.{find}
use Rattle.rev_model.specs.Client.{lookup, refusal}
use Rattle.rev_model.specs.Causes.{look_removals, settled_removals}
use Rattle.rev_model.specs.declared.Outcome.TheVariants.{Stored}
use Rattle.rev_inverse.specs.Telling.{Tells}
use Rattle.rev_edits.proofs.Telling.{tells_then}
use Rattle.rev_requests.specs.Plain.{plain_verb}
use Rattle.rev_commands.proofs.Finding.{found_key}
use Rattle.rev_commands.specs.Looking.{found_need, look_need, removal_need}
use Rattle.rev_commands.proofs.Looking.{look_most}
use Rattle.rev_commands.specs.Placing.{settled_item}
use Rattle.rev_commands.proofs.Placing.{same_frame}
use Rattle.rev_commands.proofs.Settling.{settled_stored, settled_refused, told_stored, told_refused}
use Rattle.rev_commands.proofs.Needs.{look_found}
use Rattle.rev_commands.proofs.place.settle.Goals as goal

pub refusal-requires-clause-old : goal.refusal-requires-clause-old
refusal-requires-clause-old g c = (c.key.result.now, found_key c.args.store.now c.requires.sound.well c.lookup_at-old.new.store c.key.result.now c.lookup_at-old.result c.lookup_at-old.ensures.state c.lookup_at-old.ensures.found)

pub give_back-requires-clause-chunk : goal.give_back-requires-clause-chunk
give_back-requires-clause-chunk g c =
    let frame = same_frame c.args.store.now c.lookup_at-old.new.store c.key.result.now c.lookup_at-old.ensures.state in
    rw (frame.fixed, frame.owner) c.requires.chunk

pub renew-requires-clause-chunk : goal.renew-requires-clause-chunk
renew-requires-clause-chunk g c =
    let frame = same_frame c.args.store.now c.lookup_at-old.new.store c.key.result.now c.lookup_at-old.ensures.state in
    rw (frame.fixed, frame.owner) c.requires.chunk

pub renew-requires-clause-old : goal.renew-requires-clause-old
renew-requires-clause-old g c =
    subst (λ k. find c.lookup_at-old.new.store k ≡ c.lookup_at-old.result) c.key.ensures
    (found_key c.args.store.now c.requires.sound.well c.lookup_at-old.new.store c.key.result.now c.lookup_at-old.result c.lookup_at-old.ensures.state c.lookup_at-old.ensures.found)

pub returns-in-Some-clause-done : goal.returns-in-Some-clause-done
returns-in-Some-clause-done g c =
    subst (λ k. (c.give_back.new.store, c.in-Some.outcome) ≡ settled_item (plain_verb c.args.verb) c.args.class c.args.chunk c.args.item (lookup c.args.store.now k)) c.key.ensures
    (settled_refused c.args.store.now c.lookup_at-old.new.store c.key.result.now c.lookup_at-old.result c.lookup_at-old.ensures.state c.lookup_at-old.ensures.found (plain_verb c.args.verb) c.refusal.result c.refusal.ensures
    c.args.class c.args.chunk c.args.item c.give_back.new.store c.in-Some.outcome c.in-Some.is c.give_back.ensures.state)

pub returns-in-Some-clause-leads : goal.returns-in-Some-clause-leads
returns-in-Some-clause-leads g c = λ first l. c.give_back.ensures.leads first (c.lookup_at-old.ensures.leads first l)

pub returns-in-Some-clause-told : goal.returns-in-Some-clause-told
returns-in-Some-clause-told g c =
    subst (λ k. Tells c.args.undo.now c.args.store.now c.give_back.new.undo c.give_back.new.store (look_removals c.args.store.now k ++ settled_removals (lookup c.args.store.now k).1 (refusal (plain_verb c.args.verb) (lookup c.args.store.now k).1))) c.key.ensures
    (subst (Tells c.args.undo.now c.args.store.now c.give_back.new.undo c.give_back.new.store)
    (told_refused c.args.store.now c.lookup_at-old.new.store c.key.result.now c.lookup_at-old.result c.lookup_at-old.ensures.state c.lookup_at-old.ensures.found (plain_verb c.args.verb) c.refusal.result c.refusal.ensures c.in-Some.outcome c.in-Some.is)
    (tells_then _ _ _ _ _ _ _ _ c.lookup_at-old.ensures.told c.give_back.ensures.told))

pub returns-in-None-clause-done : goal.returns-in-None-clause-done
returns-in-None-clause-done g c =
    subst (λ k. (c.renew.new.store, Stored) ≡ settled_item (plain_verb c.args.verb) c.args.class c.args.chunk c.args.item (lookup c.args.store.now k)) c.key.ensures
    (settled_stored c.args.store.now c.lookup_at-old.new.store c.key.result.now c.lookup_at-old.result c.lookup_at-old.ensures.state c.lookup_at-old.ensures.found (plain_verb c.args.verb) c.refusal.result c.refusal.ensures
    c.args.class c.args.chunk c.args.item c.renew.new.store c.in-None.is c.renew.ensures.state)

pub returns-in-None-clause-leads : goal.returns-in-None-clause-leads
returns-in-None-clause-leads g c = λ first l. c.renew.ensures.leads first (c.lookup_at-old.ensures.leads first l)

pub returns-in-None-clause-told : goal.returns-in-None-clause-told
returns-in-None-clause-told g c =
    subst (λ k. Tells c.args.undo.now c.args.store.now c.renew.new.undo c.renew.new.store (look_removals c.args.store.now k ++ settled_removals (lookup c.args.store.now k).1 (refusal (plain_verb c.args.verb) (lookup c.args.store.now k).1))) c.key.ensures
    (subst (Tells c.args.undo.now c.args.store.now c.renew.new.undo c.renew.new.store)
    (told_stored c.args.store.now c.lookup_at-old.new.store c.key.result.now c.lookup_at-old.result c.lookup_at-old.ensures.state c.lookup_at-old.ensures.found (plain_verb c.args.verb) c.refusal.result c.refusal.ensures c.in-None.is)
    (tells_then _ _ _ _ _ _ _ _ c.lookup_at-old.ensures.told c.renew.ensures.told))

pub returns-in-Some-clause-made : goal.returns-in-Some-clause-made
returns-in-Some-clause-made g c =
    let most = subst (λ k. look_need c.args.store.now c.key.result.now ≤ removal_need c.args.store.now k) c.key.ensures (look_most c.args.store.now c.key.result.now) in
    omega (arith, most, c.lookup_at-old.ensures.made, c.give_back.ensures.made)

pub lookup_at-old-requires-clause-sound : goal.lookup_at-old-requires-clause-sound
lookup_at-old-requires-clause-sound g c = (Some c.args.chunk, c.requires.sound)

pub lookup_at-old-requires-clause-room : goal.lookup_at-old-requires-clause-room
lookup_at-old-requires-clause-room g c =
    let most = subst (λ k. look_need c.args.store.now c.key.result.now ≤ removal_need c.args.store.now k) c.key.ensures (look_most c.args.store.now c.key.result.now) in
    omega (arith, most, c.requires.room)

pub refusal-requires-clause-well : goal.refusal-requires-clause-well
refusal-requires-clause-well g c = (c.lookup_at-old.ensures.sound (Some c.args.chunk) c.requires.sound).well

pub give_back-requires-clause-sound : goal.give_back-requires-clause-sound
give_back-requires-clause-sound g c = c.lookup_at-old.ensures.sound (Some c.args.chunk) c.requires.sound

pub give_back-requires-clause-class : goal.give_back-requires-clause-class
give_back-requires-clause-class g c =
    let frame = same_frame c.args.store.now c.lookup_at-old.new.store c.key.result.now c.lookup_at-old.ensures.state in
    rw frame.fixed c.requires.class

pub give_back-requires-clause-room : goal.give_back-requires-clause-room
give_back-requires-clause-room g c =
    let most = subst (λ k. look_need c.args.store.now c.key.result.now ≤ removal_need c.args.store.now k) c.key.ensures (look_most c.args.store.now c.key.result.now) in
    omega (arith, most, c.lookup_at-old.ensures.made, c.lookup_at-old.ensures.room, c.requires.room)

pub renew-requires-clause-sound : goal.renew-requires-clause-sound
renew-requires-clause-sound g c = c.lookup_at-old.ensures.sound (Some c.args.chunk) c.requires.sound

pub renew-requires-clause-class : goal.renew-requires-clause-class
renew-requires-clause-class g c =
    let frame = same_frame c.args.store.now c.lookup_at-old.new.store c.key.result.now c.lookup_at-old.ensures.state in
    rw frame.fixed c.requires.class

pub renew-requires-clause-fits : goal.renew-requires-clause-fits
renew-requires-clause-fits g c =
    let frame = same_frame c.args.store.now c.lookup_at-old.new.store c.key.result.now c.lookup_at-old.ensures.state in
    rw frame.fixed c.requires.fits

pub returns-in-Some-clause-sound : goal.returns-in-Some-clause-sound
returns-in-Some-clause-sound g c = c.give_back.ensures.sound

pub returns-in-None-clause-sound : goal.returns-in-None-clause-sound
returns-in-None-clause-sound g c = c.renew.ensures.sound

pub returns-in-Some-clause-room : goal.returns-in-Some-clause-room
returns-in-Some-clause-room g c = c.give_back.ensures.room ∙ c.lookup_at-old.ensures.room

pub returns-in-None-clause-room : goal.returns-in-None-clause-room
returns-in-None-clause-room g c = c.renew.ensures.room ∙ c.lookup_at-old.ensures.room

pub renew-requires-clause-room : goal.renew-requires-clause-room
renew-requires-clause-room g c =
    let most = subst (λ k. look_need c.args.store.now c.key.result.now + found_need c.lookup_at-old.result ≤ removal_need c.args.store.now k) c.key.ensures (look_found c.args.store.now c.key.result.now c.lookup_at-old.result c.lookup_at-old.ensures.found) in
    omega (arith, most, c.lookup_at-old.ensures.made, c.lookup_at-old.ensures.room, c.requires.room)

pub returns-in-None-clause-made : goal.returns-in-None-clause-made
returns-in-None-clause-made g c =
    let most = subst (λ k. look_need c.args.store.now c.key.result.now + found_need c.lookup_at-old.result ≤ removal_need c.args.store.now k) c.key.ensures (look_found c.args.store.now c.key.result.now c.lookup_at-old.result c.lookup_at-old.ensures.found) in
    omega (arith, most, c.lookup_at-old.ensures.made, c.renew.ensures.made)
