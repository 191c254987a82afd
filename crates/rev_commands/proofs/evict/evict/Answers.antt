use Rattle.rev_model.proofs.Undo.{leads_none}
use Rattle.std.proofs.Common.{◌∙◌, ap, sym, subst, arith}
use Rattle.rev_inverse.specs.Record.{PlainRecord}
use Rattle.rev_inverse.specs.Telling.{TellsAll}
use Rattle.rev_edits.proofs.Telling.{tells_all}
use Rattle.std.specs.Prelude.{length, Some}
use Rattle.rev_model.specs.State.{find}
use Rattle.rev_model.specs.Client.{item_led_to, evict_found}
use Rattle.rev_model.specs.Causes.{found_removals}
use Rattle.rev_model.specs.declared.Cause.TheVariants.{Evicted}
use Rattle.rev_commands.specs.Looking.{evicted_need}
use Rattle.rev_commands.proofs.Looking.{eviction_most}
use Rattle.rev_commands.proofs.evict.evict.Goals as goal

pub returns-clause-leads : goal.returns-clause-leads
returns-clause-leads g c = c.evict_found-outcome.ensures.leads c.args.store.now (rw c.in_ok-undo.ensures (leads_none c.args.store.now))

pub returns-clause-sound : goal.returns-clause-sound
returns-clause-sound g c = c.evict_found-outcome.ensures.sound

pub returns-clause-told : goal.returns-clause-told
returns-clause-told g c =
    subst (TellsAll c.evict_found-outcome.new.undo c.evict_found-outcome.new.store) (ap (λ o. found_removals (Some Evicted) (item_led_to c.args.store.now o)) c.find-found.ensures)
    (tells_all _ _ _ _ _ (ap (λ (r : PlainRecord). r.moves) c.in_ok-undo.ensures) (ap (λ (r : PlainRecord). r.notes) c.in_ok-undo.ensures) c.evict_found-outcome.ensures.told)

pub evict_found-outcome-requires-clause-item : goal.evict_found-outcome-requires-clause-item
evict_found-outcome-requires-clause-item g c = λ x e.
    let w = c.requires.well.index.indexed c.args.key.now x (sym c.find-found.ensures ∙ e) in
    (w.0, w.1)

pub evict_found-outcome-requires-clause-room : goal.evict_found-outcome-requires-clause-room
evict_found-outcome-requires-clause-room g c = omega (arith, c.eviction_moves_at.ensures, ap (λ (r : PlainRecord). length r.moves) c.in_ok-undo.ensures, ap (λ (r : PlainRecord). r.room) c.in_ok-undo.ensures)

pub returns-clause-step : goal.returns-clause-step
returns-clause-step g c = c.evict_found-outcome.ensures.done ∙ ap (λ o. evict_found (c.args.store.now, item_led_to c.args.store.now o)) c.find-found.ensures

pub returns-clause-few : goal.returns-clause-few
returns-clause-few g c = omega (arith, c.evict_found-outcome.ensures.made, ap evicted_need c.find-found.ensures, eviction_most (find c.args.store.now c.args.key.now), ap (λ (r : PlainRecord). length r.moves) c.in_ok-undo.ensures)
