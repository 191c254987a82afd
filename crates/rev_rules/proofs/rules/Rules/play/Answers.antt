use Rattle.std.proofs.Common.{◌≡◌, inl, inr, sym, ◌∙◌, ap, subst}
use Rattle.rev_steps.specs.Plain.{plain_step}
use Rattle.rev_tree.specs.Steps.{next}
use Rattle.rev_plays.specs.Replies.{state_of}
use Rattle.rev_plays.specs.declared.quiet.Quiet.TheVariants.{Played}
use Rattle.rev_rules.specs.Rules.{IsFresh}
use Rattle.rev_rules.proofs.Going.{quiet_there, played_there}
use Rattle.rev_rules.proofs.rules.Rules.play.Goals as goal

pub unreachable-requires : goal.unreachable-requires
unreachable-requires g c =
    let m = c.self.inside.session in
    let fresh : IsFresh m = subst (λ r. IsFresh r.session) (sym c.self.view_is) c.requires in
    let p : c.in_ok-play_quietly.field-0 ≡ Played = c.in_ok-play_quietly.ensures.quiet ∙ quiet_there m (plain_step c.args.step) fresh in
    elim c.in-TooManyNodes.is [
      | inl a ↦ (let x = sym p ∙ a in cc)
      | inr a ↦ (let x = sym p ∙ a in cc)
    ]

pub returns-clause-state : goal.returns-clause-state
returns-clause-state g c =
    let m = c.self.inside.session in
    let e = plain_step c.args.step in
    let fresh : IsFresh m = subst (λ r. IsFresh r.session) (sym c.self.view_is) c.requires in
    played_there m c.play_quietly.new.session e fresh c.in_ok-play_quietly.ensures.session ∙ ap (λ r. next (state_of r.session) e) c.self.view_is
