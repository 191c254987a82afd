use Rattle.std.specs.Prelude.{refl}
use Rattle.rev_model.specs.Actor.{Bump}
use Rattle.rev_lead.proofs.Deleting.{bumped_stage}
use Rattle.rev_lead.proofs.driver.Driver.bump.Goals as goal

pub returns-clause-gone : goal.returns-clause-gone
returns-clause-gone g c = bumped_stage c.args.stage.now c.work.new.stage Bump refl c.in_ok-work.ensures.state
