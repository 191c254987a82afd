use Rattle.rev_log.proofs.Votes.{best-new, few-new}
use Rattle.rev_log.proofs.seconds.Seconds.new.Goals as goal

pub invariant_of-result : goal.invariant_of-result
invariant_of-result c = (few-new 200, best-new 200)
