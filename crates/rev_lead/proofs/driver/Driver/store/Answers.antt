use Rattle.std.proofs.Common.{sym, ◌∙◌}
use Rattle.rev_lead.proofs.Later.{failed_agrees, stored_agrees}
use Rattle.rev_lead.proofs.Driving.{led_of}
use Rattle.rev_lead.proofs.driver.Driver.store.Goals as goal

pub returns-then-has_failed-clause-agrees : goal.returns-then-has_failed-clause-agrees
returns-then-has_failed-clause-agrees g c = λ e. failed_agrees _ _ _ _ _ (sym c.has_failed.ensures ∙ c.if-has_failed.true)

pub returns-clause-agrees : goal.returns-clause-agrees
returns-clause-agrees g c = λ e. stored_agrees c.args.stage.now c.juggle.new.stage c.args.key.now c.args.storing.class c.args.storing.outcome record {
  front = c.clear_way.new.stage;
  done = c.put_alone.new.stage;
  before = led_of _ _ _ _ c.clear_way.ensures.driven;
  stored = c.in_ok-agreement.ensures.agrees e;
  behind = led_of _ _ _ _ c.juggle.ensures.driven;
}
