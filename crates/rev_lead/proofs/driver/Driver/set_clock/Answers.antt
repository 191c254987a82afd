use Rattle.std.proofs.Common.{◌∙◌, ap}
use Rattle.rev_model.specs.State.{State}
use Rattle.rev_model.specs.Actor.{Clock}
use Rattle.std.specs.Prelude.{refl}
use Rattle.rev_lead.specs.Acts.{state_of_stage}
use Rattle.rev_lead.proofs.Carrying.{clock_owner}
use Rattle.rev_lead.proofs.driver.Driver.set_clock.Goals as goal

pub returns-clause-owners : goal.returns-clause-owners
returns-clause-owners g c = ap (λ (s : State). s.owner) c.in_ok-work.ensures.state ∙ clock_owner (state_of_stage c.args.stage.now) c.args.second (Clock c.args.second) refl
