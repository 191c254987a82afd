use Rattle.rev_snapshot.proofs.Starting.{no_fills, more_fills}
use Rattle.rev_snapshot.proofs.start.put_pages.Goals as goal

pub loop-number-init : goal.loop-number-init
loop-number-init g c = no_fills _

pub loop-number-preserved : goal.loop-number-preserved
loop-number-preserved g c = more_fills c.loop-number.invariant c.in_ok-put_fill.ensures

pub loop-number-2-preserved : goal.loop-number-2-preserved
loop-number-2-preserved g c = more_fills c.loop-number-2.invariant c.in_ok-take_fill.ensures
