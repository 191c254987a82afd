use Rattle.rev_lead.specs.Counts.{adjusted}
use Rattle.rev_lead.specs.Deeds.{restores}
use Rattle.rev_lead.specs.declared.tally.Adjustment.TheVariants as adjustments
use Rattle.std.proofs.Common.{◌∙◌, ap}
use Rattle.rev_lead.proofs.Driving.{driven_act}
use Rattle.rev_lead.proofs.driver.Driver.put_back.Goals as goal

pub returns : goal.returns
returns g c = record { driven = driven_act c.args.self.now c.adjust.new.self c.args.stage.now c.play.new.self (restores c.in_ok-step.ensures.stores.verb c.args.key.now c.in_ok-step.ensures.stores.flags c.in_ok-step.ensures.stores.exptime c.in_ok-step.ensures.stores.value) _ c.in_ok-step.ensures.stores.step_is (c.adjust.ensures ∙ ap (adjusted adjustments.Restored) (c.self.view_is ∙ c.store_step.ensures.tally)) c.in_ok-play.ensures.ok }
