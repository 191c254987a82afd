use Rattle.std.specs.Prelude.{length}
use Rattle.std.proofs.Common.{ap, arith}
use Rattle.rev_model.proofs.Undo.{leads_none}
use Rattle.rev_inverse.specs.Record.{PlainRecord}
use Rattle.rev_maintainer.proofs.Bumps.{need_most}
use Rattle.rev_edits.proofs.Telling.{tells_all}
use Rattle.rev_maintainer.proofs.bumping.bump.Goals as goal

pub returns-clause-leads : goal.returns-clause-leads
returns-clause-leads g c = c.bump_in-outcome.ensures.leads c.args.store.now (rw c.in_ok-undo.ensures (leads_none c.args.store.now))

pub returns-clause-few : goal.returns-clause-few
returns-clause-few g c = omega (arith, c.bump_in-outcome.ensures.made, need_most c.args.store.now, ap (λ (r : PlainRecord). length r.moves) c.in_ok-undo.ensures)

pub returns-clause-told : goal.returns-clause-told
returns-clause-told g c = tells_all _ _ _ _ _ (ap (λ (r : PlainRecord). r.moves) c.in_ok-undo.ensures) (ap (λ (r : PlainRecord). r.notes) c.in_ok-undo.ensures) c.bump_in-outcome.ensures.told

pub returns-clause-step : goal.returns-clause-step
returns-clause-step g c = c.bump_in-outcome.ensures.done
