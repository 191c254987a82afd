use Rattle.rev_import.proofs.Written.{actor, more, writes_none}
use Rattle.rev_snapshot.proofs.start.Writer.put_pulls.Goals as goal

pub loop-init : goal.loop-init
loop-init g c = writes_none _

pub loop-preserved : goal.loop-preserved
loop-preserved g c = more c.loop.invariant (actor _ c.in_ok-put_pull.ensures)
