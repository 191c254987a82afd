use Rattle.std.specs.Prelude.{length}
use Rattle.std.proofs.Common.{sym, ◌∙◌, ap, subst, arith, w32, to_z, of_z}
use Rattle.std.proofs.lemmas.Int.{to_z-of_z}
use Rattle.rev_items.specs.Plain.{PlainItem}
use Rattle.rev_model.specs.Causes.{store_in_removals}
use Rattle.rev_model.proofs.Undo.{leads_none}
use Rattle.rev_inverse.specs.Record.{PlainRecord}
use Rattle.rev_inverse.specs.Telling.{TellsAll}
use Rattle.rev_edits.proofs.Telling.{tells_all}
use Rattle.rev_requests.specs.Plain.{plain_verb}
use Rattle.rev_commands.proofs.Looking.{removal_most}
use Rattle.rev_model.specs.State.{find}
use Rattle.rev_commands.proofs.Placing.{room_most}
use Rattle.rev_commands.proofs.Settling.{stored_as}
use Rattle.rev_commands.proofs.store.store_in.Goals as goal

pub place-outcome-requires-clause-room : goal.place-outcome-requires-clause-room
place-outcome-requires-clause-room g c =
    omega (arith, removal_most (find c.args.store.now c.in_ok-item.item.key), ap (λ (r : PlainRecord). length r.moves) c.in_ok-undo.ensures, ap (λ (r : PlainRecord). r.room) c.in_ok-undo.ensures, c.in_ok-plan.ensures.moves)

pub place-outcome-requires-clause-led : goal.place-outcome-requires-clause-led
place-outcome-requires-clause-led g c = c.find-found.ensures ∙ ap (find c.args.store.now) (sym (ap (λ (i : PlainItem). i.key) c.in_ok-item.ensures))

pub place-outcome-requires-clause-plan : goal.place-outcome-requires-clause-plan
place-outcome-requires-clause-plan g c = c.in_ok-plan.ensures.page

pub returns-clause-step : goal.returns-clause-step
returns-clause-step g c =
    stored_as c.args.store.now (plain_verb c.args.verb) c.args.class c.args.key.now c.args.value.now c.args.flags c.args.exptime (to_z w32 (of_z w32 c.args.exptime)) c.in_ok-item.item (c.place-outcome.new.store, c.place-outcome.result)
    c.in_ok-item.ensures (to_z-of_z w32 c.args.exptime c.ranges.exptime) c.place-outcome.ensures.done

pub returns-clause-leads : goal.returns-clause-leads
returns-clause-leads g c = c.place-outcome.ensures.leads c.args.store.now (rw c.in_ok-undo.ensures (leads_none c.args.store.now))

pub returns-clause-told : goal.returns-clause-told
returns-clause-told g c =
    subst (λ (i : PlainItem). TellsAll c.place-outcome.new.undo c.place-outcome.new.store (store_in_removals c.args.store.now (plain_verb c.args.verb) c.args.class i.key)) c.in_ok-item.ensures
    (tells_all _ _ _ _ _ (ap (λ (r : PlainRecord). r.moves) c.in_ok-undo.ensures) (ap (λ (r : PlainRecord). r.notes) c.in_ok-undo.ensures) c.place-outcome.ensures.told)

pub returns-clause-few : goal.returns-clause-few
returns-clause-few g c =
    omega (arith, c.place-outcome.ensures.made, room_most c.args.store.now c.args.class, removal_most (find c.args.store.now c.in_ok-item.item.key), ap (λ (r : PlainRecord). length r.moves) c.in_ok-undo.ensures)

pub returns-clause-sound : goal.returns-clause-sound
returns-clause-sound g c = c.place-outcome.ensures.sound

pub place-outcome-requires-clause-sound : goal.place-outcome-requires-clause-sound
place-outcome-requires-clause-sound g c = c.requires.sound

pub place-outcome-requires-clause-class : goal.place-outcome-requires-clause-class
place-outcome-requires-clause-class g c = c.requires.class

pub place-outcome-requires-clause-fits : goal.place-outcome-requires-clause-fits
place-outcome-requires-clause-fits g c = rw c.in_ok-item.ensures c.requires.fits

pub returns-clause-err : goal.returns-clause-err
returns-clause-err g c = tt
