use Rattle.rev_log.proofs.Votes.{IsHalved}
use Rattle.rev_log.proofs.seconds.halve.Given as goal

abbrev pub invariant-loop-phase : goal.invariant-loop-phase
invariant-loop-phase l = IsHalved l.fn.votes l.votes l.phase
