use Rattle.rev_import.proofs.sample.takes_event.Goals as goal

pub returns-in-Eviction : goal.returns-in-Eviction
returns-in-Eviction g c = rw c.in-Eviction.is c.takes-in-Eviction.ensures
