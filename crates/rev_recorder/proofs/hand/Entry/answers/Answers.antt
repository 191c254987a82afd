use Rattle.std.proofs.Common.{◌≡◌, true, sym, ap, subst, ◌∙◌}
use Rattle.rev_model.specs.declared.Outcome.{Outcome}
use Rattle.rev_model.specs.contracts.OutcomePartialEq.TheImpl.{eq-value}
use Rattle.rev_recorder.specs.Hands.{PlainEntry}
use Rattle.rev_recorder.proofs.Outcomes.{same-true, true-same}
use Rattle.rev_recorder.proofs.hand.Entry.answers.Goals as goal

pub returns : goal.returns
returns c =
    let mine : Outcome = c.self.inside.receipt.outcome in
    let outcome : mine ≡ c.args.self.now.receipt.outcome = ap (λ (e : PlainEntry). e.receipt.outcome) c.self.view_is in
    let test : c.eq.result ≡ eq-value.it mine c.args.outcome = c.eq.ensures in (
      λ e. sym outcome ∙ same-true mine c.args.outcome (sym test ∙ e),
      λ e. test ∙ subst (λ (o : Outcome). eq-value.it mine o ≡ true) (outcome ∙ e) (true-same mine),
    )
