use Rattle.rev_import.proofs.Written.{more, writes_none}
use Rattle.rev_snapshot.proofs.start.Writer.put_leaving.Goals as goal

pub loop-class-init : goal.loop-class-init
loop-class-init g c = writes_none _

pub loop-class-preserved : goal.loop-class-preserved
loop-class-preserved g c = more c.loop-class.invariant c.in_ok-put_pulls.ensures
