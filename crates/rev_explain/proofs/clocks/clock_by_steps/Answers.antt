use Rattle.std.proofs.Common.{arith, sym, ◌∙◌, ap}
use Rattle.rev_explain.specs.Clocks.{later, time_set}
use Rattle.rev_explain.proofs.Timing.{first_clock, seek_starts, seek_up, seek_stops, seek_ends}
use Rattle.rev_explain.proofs.clocks.clock_by_steps.Goals as goal

pub nodes-init : goal.nodes-init
nodes-init g c = seek_starts c.args.session.now.root c.args.session.now.rows c.args.node.0

pub nodes-preserved-in-Some : goal.nodes-preserved-in-Some
nodes-preserved-in-Some g c =
    let w = c.in-Some.ensures.some in
    seek_up c.args.session.now.root c.args.session.now.rows c.args.node.0 c.nodes.clock c.nodes.above.0 c.nodes.left c.later-clock.result c.in-Some.parent.0 w.0 c.nodes.invariant (omega (arith, c.nodes-test.true)) w.1 w.2
    (c.later-clock.ensures ∙ ap (later c.nodes.clock) (c.time_set.ensures ∙ ap (λ e. time_set e) w.3))

pub nodes-preserved : goal.nodes-preserved
nodes-preserved g c = seek_stops c.args.session.now.root c.args.session.now.rows c.args.node.0 c.nodes.clock c.nodes.above.0 c.nodes.left c.nodes.invariant c.in-None.ensures.none

pub returns : goal.returns
returns g c =
    c.later.ensures ∙ ap (later c.nodes.clock) (c.clock_on_way.ensures c.args.session.now.root.globals.clock (first_clock c.args.session.now))
    ∙ sym (seek_ends c.args.session.now.root c.args.session.now.rows c.args.node.0 c.nodes.clock c.nodes.above.0 c.nodes.left c.nodes.invariant (omega (arith, c.nodes-test.false)))
