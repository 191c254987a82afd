use Rattle.rev_recorder.specs.Hands.{IsTrueEntry}
use Rattle.rev_recorder.proofs.Compare.{one-more}
use Rattle.rev_recorder.proofs.settle.false_entry.Goals as goal

pub loop-entry-preserved : goal.loop-entry-preserved
loop-entry-preserved c =
    one-more (IsTrueEntry c.args.session.now) c.args.entries.now c.loop-entry.entry-index c.entry-item.result c.loop-entry-test.true c.entry-item.is c.loop-entry.invariant (c.is_true.ensures.0 c.if-not-is_true.false)
