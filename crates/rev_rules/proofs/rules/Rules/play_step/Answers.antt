use Rattle.rev_steps.specs.Plain.{plain_step}
use Rattle.rev_rules.proofs.Going.{went_one, fresh_gone}
use Rattle.rev_rules.proofs.rules.Rules.play_step.Goals as goal

pub returns-clause-went : goal.returns-clause-went
returns-clause-went g c =
    went_one c.args.self.now c.play.new.self c.pass.new.self (plain_step c.args.step) c.in_ok-play.ensures.state c.in_ok-play.ensures.steps c.pass.ensures

pub returns-clause-fresh : goal.returns-clause-fresh
returns-clause-fresh g c = fresh_gone c.play.new.self c.pass.new.self _ c.pass.ensures
