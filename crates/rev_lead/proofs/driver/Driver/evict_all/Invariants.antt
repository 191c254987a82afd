use Rattle.rev_lead.specs.Deeds.{Driven}
use Rattle.rev_lead.proofs.driver.Driver.evict_all.Given as goal

abbrev pub invariant-loop-key : goal.invariant-loop-key
invariant-loop-key g l = record {
  driven : Driven l.fn.self l.self l.fn.stage l.stage;
}
