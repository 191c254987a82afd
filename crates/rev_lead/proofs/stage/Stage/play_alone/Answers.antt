use Rattle.std.proofs.Common.{sym, ◌∙◌, ap, subst}
use Rattle.rev_steps.specs.Plain.{plain_step}
use Rattle.rev_tree.specs.Steps.{next}
use Rattle.rev_plays.specs.Replies.{state_of}
use Rattle.rev_lead.specs.Acts.{Ordered, state_of_stage}
use Rattle.rev_lead.proofs.Playing.{ordered_played, played_is, played_state}
use Rattle.rev_lead.proofs.stage.Stage.play_alone.Goals as goal

pub invariant_of-self-in-Ok : goal.invariant_of-self-in-Ok
invariant_of-self-in-Ok g c =
    subst Ordered (sym (played_is c.self.inside.session c.play.new.self (plain_step c.args.step) c.in-Ok.played.node.0 c.in-Ok.ensures.ok c.in-Ok.ensures.node)) (ordered_played c.self.inside.session (plain_step c.args.step) c.self.invariant)

pub returns-in-Ok-clause-state : goal.returns-in-Ok-clause-state
returns-in-Ok-clause-state g c =
    ap state_of (played_is c.self.inside.session c.play.new.self (plain_step c.args.step) c.in-Ok.played.node.0 c.in-Ok.ensures.ok c.in-Ok.ensures.node)
    ∙ played_state c.self.inside.session (plain_step c.args.step) c.self.invariant
    ∙ ap (λ s. next (state_of_stage s) (plain_step c.args.step)) c.self.view_is
