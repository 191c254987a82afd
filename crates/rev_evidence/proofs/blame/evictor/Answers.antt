use Rattle.rev_evidence.proofs.blame.evictor.Goals as goal

pub returns-in-Evicted : goal.returns-in-Evicted
returns-in-Evicted g c = rw c.in-Evicted.is c.itself.ensures
