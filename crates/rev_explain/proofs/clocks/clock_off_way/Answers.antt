use Rattle.std.proofs.Common.{arith, sym, ◌∙◌}
use Rattle.rev_requests.specs.Plain.{plain_step}
use Rattle.rev_explain.proofs.Timing.{first_clock, off_set, off_up, off_none, off_root}
use Rattle.rev_explain.proofs.clocks.clock_off_way.Goals as goal

pub returns-in-Some-clock_set : goal.returns-in-Some-clock_set
returns-in-Some-clock_set g c =
    let w = c.in-Some.ensures.some in
    off_set c.args.session.now.root c.args.session.now.rows c.args.node.0 c.nodes.above.0 c.nodes.invariant
    c.requires.falls w.0 w.1 (plain_step c.in-Some.step.now) c.in-Some.outcome w.3 w.4 c.in-Some-clock_set.clock (sym c.in-Some-clock_set.is ∙ c.clock_set.ensures)

pub nodes-preserved-in-None-clock_set : goal.nodes-preserved-in-None-clock_set
nodes-preserved-in-None-clock_set g c =
    let w = c.in-Some.ensures.some in
    off_up c.args.session.now.root c.args.session.now.rows c.args.node.0 c.nodes.above.0 c.nodes.invariant
    c.requires.falls w.0 w.1 (plain_step c.in-Some.step.now) c.in-Some.outcome w.3 w.4 (sym c.in-None-clock_set.is ∙ c.clock_set.ensures) c.in-Some.parent.0 w.2

pub nodes-preserved : goal.nodes-preserved
nodes-preserved g c = off_none c.args.session.now.root c.args.session.now.rows c.args.node.0 c.nodes.above.0 c.nodes.invariant c.in-None.ensures.none

pub returns : goal.returns
returns g c =
    c.clock_on_way.ensures c.args.session.now.root.globals.clock (first_clock c.args.session.now)
    ∙ sym (off_root c.args.session.now.root c.args.session.now.rows c.args.node.0 c.nodes.above.0 c.nodes.invariant (omega (arith, c.nodes-test.false)))
