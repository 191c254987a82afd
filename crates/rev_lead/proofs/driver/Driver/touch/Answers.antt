use Rattle.rev_lead.specs.Counts.{adjusted}
use Rattle.rev_lead.specs.Deeds.{gives_lifetime}
use Rattle.rev_lead.specs.declared.tally.Adjustment.TheVariants as adjustments
use Rattle.std.proofs.Common.{◌∙◌, ap}
use Rattle.rev_lead.proofs.Driving.{driven_act}
use Rattle.rev_lead.proofs.driver.Driver.touch.Goals as goal

pub returns : goal.returns
returns g c = record { driven = driven_act c.args.self.now c.adjust.new.self c.args.stage.now c.play.new.self (gives_lifetime c.args.key.now _) _ c.in_ok-touch.ensures (c.adjust.ensures ∙ ap (adjusted adjustments.Lifetime) c.self.view_is) c.in_ok-outcome.ensures.ok }
