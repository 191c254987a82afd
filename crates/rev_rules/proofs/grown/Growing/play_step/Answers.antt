use Rattle.std.proofs.Common.{inl, inr, sym, ◌∙◌, ap}
use Rattle.rev_steps.specs.Plain.{plain_step}
use Rattle.rev_rules.specs.Grown.{with_look}
use Rattle.rev_rules.proofs.Keeping.{fills_step, goes_step}
use Rattle.rev_rules.proofs.grown.Growing.play_step.Goals as goal

pub returns-in-TooManyNodes : goal.returns-in-TooManyNodes
returns-in-TooManyNodes g c =
    fills_step c.args.self.now c.play.new.self (plain_step c.args.step) c.in_ok-play.field-0 c.in_ok-play.ensures.quiet
    (λ p. elim c.in-TooManyNodes.is [
      | inl a ↦ (let x = sym p ∙ a in cc)
      | inr a ↦ (let x = sym p ∙ a in cc)
    ])
    c.in_ok-play.ensures.played

pub returns : goal.returns
returns g c =
    goes_step c.args.self.now c.look.new.self c.pass.new.self (plain_step c.args.step) (sym c.in_ok-play.ensures.quiet ∙ c.in-Played.is)
    (c.in_ok-look.ensures ∙ ap with_look c.in_ok-play.ensures.played) c.pass.ensures
