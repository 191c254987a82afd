use Rattle.rev_log.proofs.Sound.{sound-none}
use Rattle.rev_log.proofs.foresight.Foresight.clear.Goals as goal

pub invariant_of-self : goal.invariant_of-self
invariant_of-self g c = sound-none c.clear.ensures.items c.clear-2.ensures.items c.clear-3.ensures.items c.clear-4.ensures c.clear-5.ensures
