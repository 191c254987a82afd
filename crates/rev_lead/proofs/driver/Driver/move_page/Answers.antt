use Rattle.rev_lead.proofs.Carrying.{page_moved}
use Rattle.rev_lead.proofs.Later.{promised_more}
use Rattle.rev_lead.proofs.driver.Driver.move_page.Goals as goal

pub returns-in-Okay-clause-agrees : goal.returns-in-Okay-clause-agrees
returns-in-Okay-clause-agrees g c = promised_more c.carry.result _ _
    (page_moved c.args.stage.now c.say.new.stage c.carry.new.stage c.args.source c.args.target _ c.in_ok-say.field-0 c.actor-step.ensures c.in_ok-say.ensures.outcome c.in-Okay.is c.in_ok-say.ensures.state c.carry.ensures.carries)
    c.carry.ensures.ended
