use Rattle.std.proofs.Common.{sym, ◌∙◌}
use Rattle.rev_lead.proofs.Later.{not_true}
use Rattle.rev_lead.proofs.Driving.{led_of}
use Rattle.rev_lead.proofs.driver.Driver.missed.Goals as goal

pub returns-clause-agrees : goal.returns-clause-agrees
returns-clause-agrees g c = λ e. record {
  front = c.lose_held.new.stage;
  before = led_of _ _ _ _ c.lose_held.ensures.driven;
  missed = sym c.is_held_alive-is_missed.ensures ∙ not_true c.is_held_alive-is_missed.result (c.agrees_if.ensures e);
  behind = led_of _ _ _ _ c.play_missed.ensures.driven;
}
