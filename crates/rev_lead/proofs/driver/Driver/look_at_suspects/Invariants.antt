use Rattle.rev_lead.specs.Deeds.{Driven}
use Rattle.rev_lead.specs.Pages.{Carries}
use Rattle.rev_lead.proofs.driver.Driver.look_at_suspects.Given as goal

abbrev pub invariant-loop : goal.invariant-loop
invariant-loop g l = record {
  driven : Driven l.fn.self l.self l.fn.stage l.stage;
  carries : Carries l.fn.stage l.stage;
}
