use Rattle.rev_lead.proofs.Driving.{driven_worked}
use Rattle.rev_lead.proofs.driver.Driver.work.Goals as goal

pub returns-clause-driven : goal.returns-clause-driven
returns-clause-driven g c = driven_worked c.args.self.now c.args.stage.now c.play.new.self _ c.play.result c.play.ensures.ok c.play.ensures.err
