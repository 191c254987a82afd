use Rattle.std.proofs.Common.{◌≡◌, ◌-◌, length}
use Rattle.rev_explain.proofs.MoveLaws.{change_at}
use Rattle.rev_explain.proofs.readings.+change_from.Given as goal

abbrev pub decreases-change_from : goal.decreases-change_from
decreases-change_from g l = length l.trace.now.changes - l.start

abbrev pub invariant-loop-i : goal.invariant-loop-i
invariant-loop-i g l = change_at l.key l.home l.trace.changes l.start ≡ change_at l.key l.home l.trace.changes l.i
