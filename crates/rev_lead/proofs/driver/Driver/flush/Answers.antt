use Rattle.rev_lead.specs.Deeds.{drops_flushed}
use Rattle.std.specs.Prelude.{refl}
use Rattle.rev_lead.specs.Acts.{state_of_stage}
use Rattle.rev_lead.proofs.Carrying.{carries_calm, carries_more, get_calm}
use Rattle.rev_lead.proofs.Driving.{driven_act, driven_more}
use Rattle.rev_lead.proofs.driver.Driver.flush.Goals as goal

pub returns-clause-driven : goal.returns-clause-driven
returns-clause-driven g c = driven_more _ _ _ _ _ _ (driven_act c.end_flushed.new.self c.end_flushed.new.self c.end_flushed.new.stage c.play.new.self (drops_flushed c.args.key.now) _ c.in_ok-get.ensures (refl) c.in_ok-play.ensures.ok) c.end_flushed.ensures.driven

pub returns-clause-carries : goal.returns-clause-carries
returns-clause-carries g c = carries_more _ _ _ (carries_calm c.end_flushed.new.stage c.play.new.self _ _ (get_calm (state_of_stage c.end_flushed.new.stage) _) c.in_ok-get.ensures c.in_ok-play.ensures.state) c.end_flushed.ensures.carries
