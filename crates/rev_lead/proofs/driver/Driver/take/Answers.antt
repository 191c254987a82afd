use Rattle.std.proofs.Common.{◌∙◌, ap, subst}
use Rattle.rev_lead.specs.Counts.{counted}
use Rattle.rev_lead.specs.Deeds.{Driven}
use Rattle.rev_lead.specs.declared.stage.LeadFault.{LeadFault}
use Rattle.rev_lead.proofs.Later.{agreed_more}
use Rattle.rev_lead.proofs.Driving.{led_of, driven_more, tells_counted}
use Rattle.rev_lead.proofs.driver.Driver.take.Goals as goal

pub returns-in_err-set_clock-clause-led : goal.returns-in_err-set_clock-clause-led
returns-in_err-set_clock-clause-led g c = led_of _ _ _ _ c.set_clock.ensures.driven

pub returns-in_err-agreement-clause-led : goal.returns-in_err-agreement-clause-led
returns-in_err-agreement-clause-led g c = led_of _ _ _ _ (driven_more _ _ _ _ _ _ c.event.ensures.driven c.set_clock.ensures.driven)

pub returns-clause-led : goal.returns-clause-led
returns-clause-led g c = led_of _ _ _ _ (driven_more _ _ _ _ _ _ c.event.ensures.driven c.set_clock.ensures.driven)

pub returns-clause-agrees : goal.returns-clause-agrees
returns-clause-agrees g c = λ e. agreed_more c.args.coming.now.line.event c.args.stage.now c.set_clock.new.stage c.event.new.stage (led_of _ _ _ _ c.set_clock.ensures.driven) c.set_clock.ensures.owners (c.in_ok-agreement.ensures.agrees e)

pub returns-clause-tells : goal.returns-clause-tells
returns-clause-tells g c = tells_counted LeadFault c.args.self.now c.event.new.self c.count.new.self c.args.stage.now c.event.new.stage c.in_ok-agreement.agreement
    (subst (λ a. Driven a c.event.new.self c.args.stage.now c.event.new.stage) c.self.view_is (driven_more _ _ _ _ _ _ c.event.ensures.driven c.set_clock.ensures.driven))
    (c.count.ensures ∙ ap (counted c.in_ok-agreement.agreement) c.self-2.view_is)
