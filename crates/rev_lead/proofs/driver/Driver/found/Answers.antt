use Rattle.std.proofs.Common.{sym, ◌∙◌}
use Rattle.rev_lead.proofs.Driving.{led_of}
use Rattle.rev_lead.proofs.driver.Driver.found.Goals as goal

pub returns-clause-agrees : goal.returns-clause-agrees
returns-clause-agrees g c = λ e. record {
  front = c.restore_unless.new.stage;
  before = led_of _ _ _ _ c.restore_unless.ensures.driven;
  found = sym c.is_found-is_there.ensures ∙ c.agrees_if.ensures e;
  behind = led_of _ _ _ _ c.play_found.ensures.driven;
}
