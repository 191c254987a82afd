use Rattle.rev_lead.specs.Counts.{adjusted}
use Rattle.rev_lead.specs.Deeds.{lets_evicted_go}
use Rattle.rev_lead.specs.declared.tally.Adjustment.TheVariants as adjustments
use Rattle.std.proofs.Common.{◌∙◌, ap}
use Rattle.rev_lead.proofs.Driving.{driven_act}
use Rattle.rev_lead.proofs.driver.Driver.evict.Goals as goal

pub returns : goal.returns
returns g c = record { driven = driven_act c.args.self.now c.adjust.new.self c.args.stage.now c.play.new.self (lets_evicted_go c.args.key.now) _ c.in_ok-evict.ensures (c.adjust.ensures ∙ ap (adjusted adjustments.Evicted) c.self.view_is) c.in_ok-play.ensures.ok }
