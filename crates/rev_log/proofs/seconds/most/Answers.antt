use Rattle.std.proofs.Common.{arith}
use Rattle.rev_log.proofs.Votes.{most-more}
use Rattle.rev_log.proofs.seconds.most.Goals as goal

pub loop-count-preserved : goal.loop-count-preserved
loop-count-preserved c = grind (arith, most-more)
