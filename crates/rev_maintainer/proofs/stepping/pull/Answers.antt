use Rattle.std.proofs.Common.{sym, ◌∙◌, ap, subst, arith}
use Rattle.rev_model.proofs.Undo.{leads_none}
use Rattle.std.specs.Prelude.{◌≡◌, Bool, cond, [], length}
use Rattle.rev_model.specs.Pull.{pull}
use Rattle.rev_model.specs.Causes.{pull_removals}
use Rattle.rev_model.specs.declared.Outcome.TheVariants.{BadClass}
use Rattle.rev_model.specs.declared.PullMode.TheVariants.{Plain}
use Rattle.rev_inverse.specs.Record.{PlainRecord}
use Rattle.rev_inverse.specs.Telling.{TellsAll}
use Rattle.rev_edits.proofs.Telling.{tells_all}
use Rattle.rev_maintainer.proofs.stepping.pull.Goals as goal

pub returns-clause-leads : goal.returns-clause-leads
returns-clause-leads g c = c.pull_queue-outcome.ensures.leads c.args.store.now (rw c.in_ok-undo.ensures (leads_none c.args.store.now))

pub returns-clause-step : goal.returns-clause-step
returns-clause-step g c =
    subst (λ (b : Bool). (c.pull_queue-outcome.new.store, c.pull_queue-outcome.result) ≡ cond b (pull c.args.store.now c.args.class c.args.queue Plain) (c.args.store.now, BadClass)) (sym (sym c.is_class.ensures ∙ c.if-not-is_class.false))
    c.pull_queue-outcome.ensures.done

pub returns-clause-told : goal.returns-clause-told
returns-clause-told g c =
    subst (λ (b : Bool). TellsAll c.pull_queue-outcome.new.undo c.pull_queue-outcome.new.store (cond b (pull_removals c.args.store.now c.args.class c.args.queue Plain) [])) (sym (sym c.is_class.ensures ∙ c.if-not-is_class.false))
    (tells_all _ _ _ _ _ (ap (λ (r : PlainRecord). r.moves) c.in_ok-undo.ensures) (ap (λ (r : PlainRecord). r.notes) c.in_ok-undo.ensures) c.pull_queue-outcome.ensures.told)

pub returns-clause-few : goal.returns-clause-few
returns-clause-few g c = omega (arith, c.pull_queue-outcome.ensures.made, ap (λ (r : PlainRecord). length r.moves) c.in_ok-undo.ensures)

pub returns-clause-sound : goal.returns-clause-sound
returns-clause-sound g c = c.pull_queue-outcome.ensures.sound
