use Rattle.rev_log.proofs.Sound.{sound-none}
use Rattle.rev_log.proofs.foresight.Foresight.new.Goals as goal

pub invariant_of-result : goal.invariant_of-result
invariant_of-result g c = sound-none c.new.ensures.items c.new-2.ensures.items c.new-3.ensures.items c.new-4.ensures c.new-5.ensures
