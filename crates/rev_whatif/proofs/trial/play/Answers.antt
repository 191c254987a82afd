use Rattle.std.proofs.Common.{◌≡◌, ◌∙◌, ap}
use Rattle.std.proofs.lemmas.Result.{IfOk-weaker}
use Rattle.rev_model.specs.State.{State}
use Rattle.rev_model.specs.Actor.{step}
use Rattle.rev_model.specs.declared.Outcome.{Outcome}
use Rattle.rev_requests.specs.Plain.{plain_step}
use Rattle.rev_tree.specs.Steps.{next, outcome_of}
use Rattle.rev_whatif.proofs.trial.play.Goals as goal

pub returns-in-Ok-clause-state : goal.returns-in-Ok-clause-state
unfolding next
returns-in-Ok-clause-state g c = ap (λ (p : State × Outcome). p.0) c.in-Ok.ensures.step

pub returns-in-Ok-clause-outcome : goal.returns-in-Ok-clause-outcome
unfolding outcome_of
returns-in-Ok-clause-outcome g c = ap (λ (p : State × Outcome). p.1) c.in-Ok.ensures.step

pub returns-else-not-narrow-clause-state : goal.returns-else-not-narrow-clause-state
unfolding next
returns-else-not-narrow-clause-state g c =
    let e = plain_step c.args.step.now in
    IfOk-weaker c.apply-in-Err.result (λ p. (c.apply-in-Err.new.store, p.0) ≡ step c.narrow.new.self e) (λ _. c.apply-in-Err.new.store ≡ next c.args.store.now e)
    (λ p q. ap (λ (r : State × Outcome). r.0) q ∙ ap (λ s. next s e) (c.narrow.ensures ∙ c.in-Err.ensures.err)) c.apply-in-Err.ensures.step

pub returns-else-not-narrow-clause-outcome : goal.returns-else-not-narrow-clause-outcome
unfolding outcome_of
returns-else-not-narrow-clause-outcome g c =
    let e = plain_step c.args.step.now in
    IfOk-weaker c.apply-in-Err.result (λ p. (c.apply-in-Err.new.store, p.0) ≡ step c.narrow.new.self e) (λ p. p.0 ≡ outcome_of c.args.store.now e)
    (λ p q. ap (λ (r : State × Outcome). r.1) q ∙ ap (λ s. outcome_of s e) (c.narrow.ensures ∙ c.in-Err.ensures.err)) c.apply-in-Err.ensures.step
