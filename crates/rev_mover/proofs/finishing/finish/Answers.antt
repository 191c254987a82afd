use Rattle.std.proofs.Common.{rules, ap, arith}
use Rattle.rev_model.proofs.Undo.{leads_none}
use Rattle.rev_inverse.specs.Record.{PlainRecord}
use Rattle.rev_edits.proofs.Telling.{tells_all}
use Rattle.std.specs.Prelude.{length}
use Rattle.rev_model.specs.State.{State}
use Rattle.rev_model.specs.declared.Outcome.TheVariants.{Finished}
use Rattle.rev_mover.proofs.finishing.finish.Goals as goal

pub returns-clause-leads : goal.returns-clause-leads
returns-clause-leads g c = c.hand_over.ensures.leads c.args.store.now (rw c.in_ok-undo.ensures (leads_none c.args.store.now))

pub hand_over-requires-clause-parts : goal.hand_over-requires-clause-parts
hand_over-requires-clause-parts g c = search rules steps 1500000

pub returns-clause-step : goal.returns-clause-step
returns-clause-step g c = ap (λ (t : State). (t, Finished)) c.hand_over.ensures.state

pub returns-clause-told : goal.returns-clause-told
returns-clause-told g c = tells_all _ _ _ _ _ (ap (λ (r : PlainRecord). r.moves) c.in_ok-undo.ensures) (ap (λ (r : PlainRecord). r.notes) c.in_ok-undo.ensures) c.hand_over.ensures.told

pub returns-clause-few : goal.returns-clause-few
returns-clause-few g c = omega (arith, c.hand_over.ensures.made, c.page_moves.ensures.moves, c.page_moves.ensures.within, ap (λ (r : PlainRecord). length r.moves) c.in_ok-undo.ensures)
