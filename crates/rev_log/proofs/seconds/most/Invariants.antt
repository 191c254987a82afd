use Rattle.std.proofs.Common.{◌≡◌, take}
use Rattle.rev_log.specs.Seconds.{most}
use Rattle.rev_log.proofs.seconds.most.Given as goal

abbrev pub invariant-loop-count : goal.invariant-loop-count
invariant-loop-count l = l.most ≡ most (take l.count-index l.votes)
