use Rattle.std.proofs.Common.{subst}
use Rattle.rev_lead.specs.Deeds.{Driven}
use Rattle.rev_lead.proofs.Driving.{led_of, driven_more}
use Rattle.rev_lead.proofs.driver.Driver.finish.Goals as goal

pub returns-in_err-evict-in-Some-clause-led : goal.returns-in_err-evict-in-Some-clause-led
returns-in_err-evict-in-Some-clause-led g c = led_of _ _ _ _ (driven_more _ _ _ _ _ _ (subst (λ a. Driven a c.evict.new.self c.loop.stage c.evict.new.stage) c.self-in-loop.view_is c.evict.ensures.driven) c.loop.invariant.driven)

pub returns-after-loop-clause-led : goal.returns-after-loop-clause-led
returns-after-loop-clause-led g c = led_of _ _ _ _ c.loop.invariant.driven

pub returns-in-None-clause-led : goal.returns-in-None-clause-led
returns-in-None-clause-led g c = led_of _ _ _ _ c.loop.invariant.driven
