use Rattle.rev_log.proofs.Votes.{IsCounted}
use Rattle.rev_log.proofs.seconds.count_all.Given as goal

abbrev pub invariant-loop-phase : goal.invariant-loop-phase
invariant-loop-phase l = IsCounted l.stored l.evicted l.elapsed l.fn.votes l.votes l.phase
