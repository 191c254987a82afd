use Rattle.rev_lead.specs.Deeds.{Driven}
use Rattle.rev_lead.proofs.driver.Driver.juggle.Given as goal

abbrev pub invariant-loop-queue : goal.invariant-loop-queue
invariant-loop-queue g l = record {
  driven : Driven l.fn.self l.self l.fn.stage l.stage;
}
