use Rattle.std.specs.Prelude.{refl}
use Rattle.rev_lead.specs.declared.role.Role.TheVariants as roles
use Rattle.rev_lead.proofs.Driving.{driven_more, driven_same}
use Rattle.rev_lead.proofs.Later.{act_played}
use Rattle.rev_lead.proofs.driver.Driver.put.Goals as goal

pub returns-in_default : goal.returns-in_default
returns-in_default g c = record {
  driven = driven_more _ _ _ _ _ _ c.say.ensures.driven (driven_same _ _ _ _ c.store_step.ensures.tally refl);
  done = act_played c.args.stage.now c.say.new.stage c.args.key.now _ roles.Event c.say.result c.in_ok-step.ensures.stores c.say.ensures.ok c.say.ensures.outcome;
}
