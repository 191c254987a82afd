use Rattle.rev_mover.proofs.Starting.{started_sound}
use Rattle.rev_inverse.specs.Record.{PlainRecord}
use Rattle.rev_edits.proofs.Telling.{tells_all}
use Rattle.std.specs.Prelude.{length}
use Rattle.std.proofs.Common.{ap, arith, sym, ◌∙◌}
use Rattle.rev_model.proofs.Undo.{leads_none}
use Rattle.rev_model.specs.State.{State}
use Rattle.rev_model.specs.declared.Outcome.TheVariants.{Okay}
use Rattle.rev_mover.proofs.scheduling.schedule.Goals as goal

pub returns-in_ok-undo-in-Ok-clause-sound : goal.returns-in_ok-undo-in-Ok-clause-sound
returns-in_ok-undo-in-Ok-clause-sound g c =
    let starts = c.in-Ok.ensures.starts in
    rw c.change.ensures.state (started_sound c.args.store.now c.requires starts.0 c.in-Ok.mover starts.1 starts.2)

pub returns-in_ok-undo-in-Ok-clause-step : goal.returns-in_ok-undo-in-Ok-clause-step
returns-in_ok-undo-in-Ok-clause-step g c = ap (λ (t : State). (t, Okay)) c.change.ensures.state ∙ sym c.in-Ok.ensures.ok

pub returns-in_ok-undo-in-Ok-clause-told : goal.returns-in_ok-undo-in-Ok-clause-told
returns-in_ok-undo-in-Ok-clause-told g c = tells_all _ _ _ _ _ (ap (λ (r : PlainRecord). r.moves) c.in_ok-undo-in-Ok.ensures) (ap (λ (r : PlainRecord). r.notes) c.in_ok-undo-in-Ok.ensures) c.change.ensures.told

pub returns-in_ok-undo-in-Ok-clause-leads : goal.returns-in_ok-undo-in-Ok-clause-leads
returns-in_ok-undo-in-Ok-clause-leads g c = c.change.ensures.leads c.args.store.now (rw c.in_ok-undo-in-Ok.ensures (leads_none c.args.store.now))

pub returns-in_ok-undo-in-Ok-clause-few : goal.returns-in_ok-undo-in-Ok-clause-few
returns-in_ok-undo-in-Ok-clause-few g c = omega (arith, c.change.ensures.made, ap (λ (r : PlainRecord). length r.moves) c.in_ok-undo-in-Ok.ensures)
