use Rattle.rev_lead.specs.Counts.{adjusted}
use Rattle.rev_lead.specs.Deeds.{flushes}
use Rattle.rev_lead.specs.declared.tally.Adjustment.TheVariants as adjustments
use Rattle.std.proofs.Common.{◌∙◌, ap}
use Rattle.rev_lead.specs.Acts.{state_of_stage}
use Rattle.rev_lead.proofs.Carrying.{carries_calm, touch_calm}
use Rattle.rev_lead.proofs.Driving.{driven_act}
use Rattle.rev_lead.proofs.driver.Driver.end_flushed.Goals as goal

pub returns-clause-driven : goal.returns-clause-driven
returns-clause-driven g c = driven_act c.args.self.now c.adjust.new.self c.args.stage.now c.play.new.self (flushes c.args.key.now) _ c.in_ok-touch.ensures (c.adjust.ensures ∙ ap (adjusted adjustments.Flushed) c.self.view_is) c.in_ok-play.ensures.ok

pub returns-clause-carries : goal.returns-clause-carries
returns-clause-carries g c = carries_calm c.args.stage.now c.play.new.self _ _ (touch_calm (state_of_stage c.args.stage.now) _ _) c.in_ok-touch.ensures c.in_ok-play.ensures.state
