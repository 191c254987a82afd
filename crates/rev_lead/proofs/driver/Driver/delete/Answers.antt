use Rattle.rev_lead.proofs.Deleting.{deleted_stage}
use Rattle.rev_lead.proofs.Driving.{led_of}
use Rattle.rev_lead.proofs.driver.Driver.delete.Goals as goal

pub returns-clause-agrees : goal.returns-clause-agrees
returns-clause-agrees g c = λ e. deleted_stage c.args.stage.now c.say.new.stage c.bump.new.stage c.args.key.now _ c.in_ok-delete.ensures c.in_ok-say.ensures.ok c.in_ok-say.ensures.state c.bump.ensures.gone (led_of _ _ _ _ c.bump.ensures.driven)
