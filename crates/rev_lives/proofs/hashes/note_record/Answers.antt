use Rattle.rev_inverse.specs.Record.{plain_change}
use Rattle.rev_lives.proofs.Lacks.{so_far_more}
use Rattle.rev_lives.proofs.hashes.note_record.Goals as goal

pub loop-i-preserved : goal.loop-i-preserved
loop-i-preserved g c =
    so_far_more c.args.hashes.now.items c.loop-i.hashes.items c.note_change.new.hashes.items c.args.store.now c.args.trace.now.changes c.loop-i.i (plain_change c.in-Some.undo.now) c.in-Some.ensures.0 c.in-Some.ensures.1
    c.in_ok-note_change-in-Some.ensures c.loop-i.invariant
