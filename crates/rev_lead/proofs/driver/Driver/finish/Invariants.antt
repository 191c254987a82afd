use Rattle.rev_lead.specs.Deeds.{Driven}
use Rattle.rev_lead.proofs.driver.Driver.finish.Given as goal

abbrev pub invariant-loop : goal.invariant-loop
invariant-loop g l = record {
  driven : Driven l.fn.self l.self l.fn.stage l.stage;
}
