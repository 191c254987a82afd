use Rattle.rev_import.proofs.Written.{actor, more, writes_none}
use Rattle.rev_import.proofs.scribe.Scribe.move_page.Goals as goal

pub loop-init : goal.loop-init
loop-init g c = actor _ c.in_ok-put_reassign.ensures

pub loop-preserved : goal.loop-preserved
loop-preserved g c = more c.loop.invariant (actor _ c.in_ok-put_move.ensures)

pub returns-in_ok-put_move : goal.returns-in_ok-put_move
returns-in_ok-put_move g c = more c.loop.invariant (actor _ c.in_ok-put_move.ensures)
