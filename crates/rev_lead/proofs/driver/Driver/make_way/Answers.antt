use Rattle.rev_lead.specs.Deeds.{makes_way}
use Rattle.std.specs.Prelude.{refl}
use Rattle.rev_lead.proofs.Driving.{driven_act}
use Rattle.rev_lead.proofs.driver.Driver.make_way.Goals as goal

pub returns : goal.returns
returns g c = record { driven = driven_act c.args.self.now c.args.self.now c.args.stage.now c.play.new.self (makes_way c.args.key.now) _ c.in_ok-delete.ensures (refl) c.in_ok-play.ensures.ok }
