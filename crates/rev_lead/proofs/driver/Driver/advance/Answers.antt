use Rattle.std.specs.Prelude.{refl}
use Rattle.rev_model.specs.Actor.{Advance}
use Rattle.rev_lead.proofs.Carrying.{carries_advance, carries_more}
use Rattle.rev_lead.proofs.Driving.{driven_more}
use Rattle.rev_lead.proofs.driver.Driver.advance.Goals as goal

pub loop-preserved : goal.loop-preserved
loop-preserved g c = record {
  driven = driven_more _ _ _ _ _ _ c.in_ok-work.ensures.driven (driven_more _ _ _ _ _ _ c.in_ok-shield.ensures.driven c.loop.invariant.driven);
  carries = carries_more _ _ _ (carries_advance c.shield.new.stage c.work.new.stage Advance refl c.in_ok-work.ensures.state) (carries_more _ _ _ c.in_ok-shield.ensures.carries c.loop.invariant.carries);
}
