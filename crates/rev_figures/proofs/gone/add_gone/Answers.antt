use Rattle.std.proofs.Common.{arith}
use Rattle.rev_requests.specs.Plain.{plain_step}
use Rattle.rev_explain.proofs.Departing.{record_past, record_more}
use Rattle.rev_figures.proofs.gone.add_gone.Goals as goal

pub changes-preserved-in-None : goal.changes-preserved-in-None
changes-preserved-in-None g c = λ after.
    record_past c.args.node.0 (plain_step c.args.step.now) c.args.outcome c.args.trace.now.changes c.changes.start after c.args.gone.now.items c.changes.gone.items
    c.in-None.ensures (c.changes.invariant after)

pub changes-preserved : goal.changes-preserved
changes-preserved g c = λ after.
    record_more c.args.node.0 (plain_step c.args.step.now) c.args.outcome c.args.trace.now.changes c.changes.start c.in-Some.undo.now after c.args.gone.now.items c.changes.gone.items c.add_change.new.gone.items
    (omega (arith, c.changes-test.true)) c.in-Some.ensures.0 c.in-Some.ensures.1 (c.changes.invariant after) c.in_ok-add_change-in-Some.ensures
