use Rattle.rev_log.proofs.Votes.{HasRuns}
use Rattle.rev_log.proofs.seconds.middle.Given as goal

abbrev pub invariant-loop-phase : goal.invariant-loop-phase
invariant-loop-phase l = HasRuns l.votes l.phase l.runs
