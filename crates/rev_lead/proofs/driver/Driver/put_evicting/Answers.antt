use Rattle.rev_lead.specs.Counts.{adjusted}
use Rattle.rev_lead.specs.Deeds.{evicts}
use Rattle.rev_lead.specs.declared.tally.Adjustment.TheVariants as adjustments
use Rattle.std.proofs.Common.{◌∙◌, ap}
use Rattle.rev_lead.proofs.Driving.{driven_act}
use Rattle.rev_lead.proofs.driver.Driver.put_evicting.Goals as goal

pub returns-clause-driven : goal.returns-clause-driven
returns-clause-driven g c = driven_act c.args.self.now c.adjust.new.self c.args.stage.now c.play.new.self (evicts c.requires.verb c.args.key.now c.requires.flags c.requires.exptime c.requires.value) _ c.requires.step_is (c.adjust.ensures ∙ ap (adjusted adjustments.ByRules) c.self.view_is) c.in_ok-outcome.ensures.ok
