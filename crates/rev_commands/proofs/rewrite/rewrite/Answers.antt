use Rattle.std.specs.Prelude.{length, ◌≡◌}
use Rattle.std.proofs.Common.{sym, ◌∙◌, ap, subst, arith}
use Rattle.rev_items.specs.Plain.{PlainItem}
use Rattle.rev_model.specs.State.{find}
use Rattle.rev_model.specs.Client.{Replaces}
use Rattle.rev_model.specs.Causes.{store_in_removals}
use Rattle.rev_model.proofs.Undo.{leads_none}
use Rattle.rev_model.specs.declared.Outcome.{Outcome}
use Rattle.rev_inverse.specs.Record.{PlainRecord}
use Rattle.rev_inverse.specs.Telling.{TellsAll}
use Rattle.rev_edits.proofs.Telling.{tells_all}
use Rattle.rev_commands.proofs.Looking.{removal_most}
use Rattle.rev_commands.proofs.Rewriting.{rewritten_as, told_as}
use Rattle.rev_commands.proofs.Placing.{room_most}
use Rattle.rev_commands.proofs.rewrite.rewrite.Goals as goal

pub place-outcome-requires-clause-room : goal.place-outcome-requires-clause-room
place-outcome-requires-clause-room g c =
    omega (arith, removal_most (find c.args.store.now c.args.draft.item.key), ap (λ (r : PlainRecord). length r.moves) c.in_ok-undo.ensures, ap (λ (r : PlainRecord). r.room) c.in_ok-undo.ensures, c.in_ok-plan.ensures.moves)

pub place-outcome-requires-clause-led : goal.place-outcome-requires-clause-led
place-outcome-requires-clause-led g c =
    let key : c.args.draft.item.key ≡ c.args.key.now = ap (λ (i : PlainItem). i.key) c.requires.drafted.item in
    c.requires.led ∙ ap (find c.args.store.now) (sym key)

pub place-outcome-requires-clause-plan : goal.place-outcome-requires-clause-plan
place-outcome-requires-clause-plan g c = c.in_ok-plan.ensures.page

pub returns-clause-step : goal.returns-clause-step
returns-clause-step g c =
    let i = c.args.draft.item in
    ap (λ (o : Outcome). (c.place-outcome.new.store, o)) c.named.ensures
    ∙ rewritten_as c.args.store.now c.place-outcome.new.store c.args.draft.class c.args.key.now i.value i.flags i.moment c.args.missing c.args.draft.answer c.place-outcome.result i c.requires.drafted.item c.place-outcome.ensures.done

pub returns-clause-leads : goal.returns-clause-leads
returns-clause-leads g c = c.place-outcome.ensures.leads c.args.store.now (rw c.in_ok-undo.ensures (leads_none c.args.store.now))

pub returns-clause-few : goal.returns-clause-few
returns-clause-few g c =
    let s = c.args.store.now in
    omega (arith, c.place-outcome.ensures.made, room_most s c.args.draft.class, removal_most (find s c.args.draft.item.key), ap (λ (r : PlainRecord). length r.moves) c.in_ok-undo.ensures)

pub returns-clause-told : goal.returns-clause-told
returns-clause-told g c =
    let s = c.args.store.now in
    let d = c.args.draft in
    let key : d.item.key ≡ c.args.key.now = ap (λ (i : PlainItem). i.key) c.requires.drafted.item in
    subst (TellsAll c.place-outcome.new.undo c.place-outcome.new.store) (ap (store_in_removals s Replaces d.class) key ∙ told_as s d.class c.args.key.now)
    (tells_all c.in_ok-undo.undo c.place-outcome.new.undo s c.place-outcome.new.store (store_in_removals s Replaces d.class d.item.key) (ap (λ (r : PlainRecord). r.moves) c.in_ok-undo.ensures) (ap (λ (r : PlainRecord). r.notes) c.in_ok-undo.ensures) c.place-outcome.ensures.told)

pub returns-clause-sound : goal.returns-clause-sound
returns-clause-sound g c = c.place-outcome.ensures.sound
