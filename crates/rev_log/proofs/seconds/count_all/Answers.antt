use Rattle.std.proofs.Common.{arith}
use Rattle.rev_log.proofs.Votes.{counted_all}
use Rattle.rev_log.proofs.seconds.count_all.Goals as goal

pub returns : goal.returns
returns c = counted_all c.args.stored c.args.evicted c.args.elapsed c.args.votes.now c.loop-phase.votes c.loop-phase.phase (omega arith) c.loop-phase.invariant
