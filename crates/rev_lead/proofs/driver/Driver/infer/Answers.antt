use Rattle.rev_lead.specs.Counts.{adjusted}
use Rattle.rev_lead.specs.Deeds.{infers}
use Rattle.rev_lead.specs.declared.tally.Adjustment.TheVariants as adjustments
use Rattle.std.proofs.Common.{◌∙◌, ap}
use Rattle.rev_lead.specs.Acts.{state_of_stage}
use Rattle.rev_lead.proofs.Carrying.{carries_calm, delete_calm}
use Rattle.rev_lead.proofs.Driving.{driven_act}
use Rattle.rev_lead.proofs.driver.Driver.infer.Goals as goal

pub returns-clause-driven : goal.returns-clause-driven
returns-clause-driven g c = driven_act c.args.self.now c.adjust.new.self c.args.stage.now c.play.new.self (infers c.args.inference c.args.key.now c.args.shown c.args.moved) _ c.in_ok-delete.ensures (c.adjust.ensures ∙ ap (adjusted (adjustments.Inferred c.args.inference)) c.self.view_is) c.in_ok-outcome.ensures.ok

pub returns-clause-carries : goal.returns-clause-carries
returns-clause-carries g c = carries_calm c.args.stage.now c.play.new.self _ _ (delete_calm (state_of_stage c.args.stage.now) _) c.in_ok-delete.ensures c.in_ok-outcome.ensures.state
