use Rattle.rev_snapshot.proofs.Starting.{no_fills, more_fills}
use Rattle.rev_snapshot.proofs.start.put_all_pages.Goals as goal

pub loop-class-init : goal.loop-class-init
loop-class-init g c = no_fills _

pub loop-class-preserved : goal.loop-class-preserved
loop-class-preserved g c = more_fills c.loop-class.invariant c.in_ok-put_pages.ensures

pub returns-in_ok-put_pages : goal.returns-in_ok-put_pages
returns-in_ok-put_pages g c = more_fills c.loop-class.invariant c.in_ok-put_pages.ensures
