use Rattle.std.specs.Prelude.{length}
use Rattle.std.proofs.Common.{◌∙◌, ap, arith, w32}
use Rattle.std.proofs.lemmas.Int.{to_z-of_z}
use Rattle.rev_model.proofs.Undo.{leads_none}
use Rattle.rev_model.specs.Client.{touch}
use Rattle.rev_inverse.specs.Record.{PlainRecord}
use Rattle.rev_commands.proofs.Hitting.{access_most}
use Rattle.rev_edits.proofs.Telling.{tells_all}
use Rattle.rev_commands.proofs.touch.touch.Goals as goal

pub returns-clause-step : goal.returns-clause-step
returns-clause-step g c = c.touch_in-outcome.ensures.done ∙ ap (touch c.args.store.now c.args.key.now) (to_z-of_z w32 c.args.exptime c.ranges.exptime)

pub returns-clause-leads : goal.returns-clause-leads
returns-clause-leads g c = c.touch_in-outcome.ensures.leads c.args.store.now (rw c.in_ok-undo.ensures (leads_none c.args.store.now))

pub returns-clause-few : goal.returns-clause-few
returns-clause-few g c = omega (arith, c.touch_in-outcome.ensures.made, access_most 1 c.args.store.now c.args.key.now, ap (λ (r : PlainRecord). length r.moves) c.in_ok-undo.ensures)

pub returns-clause-sound : goal.returns-clause-sound
returns-clause-sound g c = c.touch_in-outcome.ensures.sound

pub returns-clause-told : goal.returns-clause-told
returns-clause-told g c = tells_all _ _ _ _ _ (ap (λ (r : PlainRecord). r.moves) c.in_ok-undo.ensures) (ap (λ (r : PlainRecord). r.notes) c.in_ok-undo.ensures) c.touch_in-outcome.ensures.told
