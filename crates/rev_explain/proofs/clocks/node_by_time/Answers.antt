use Rattle.std.proofs.Common.{refl, arith, sym, ◌∙◌, ap, subst, length}
use Rattle.rev_requests.specs.Plain.{plain_step}
use Rattle.rev_tree.specs.Machine.{lineage}
use Rattle.rev_explain.proofs.Climbs.{above_root, at_end}
use Rattle.rev_explain.proofs.Timing.{Timed, time_starts, time_here, time_up, time_root, time_none}
use Rattle.rev_explain.proofs.clocks.node_by_time.Goals as goal

pub nodes-init : goal.nodes-init
nodes-init g c =
    subst (λ d. Timed c.args.session.now c.args.time d c.globals-clock.result.clock) (sym c.depth-depth.ensures)
    (time_starts c.args.session.now c.args.time c.globals-clock.result.clock (ap (λ g. g.clock) c.globals-clock.ensures ∙ ap (λ s. s.globals.clock) c.store.ensures.state))

pub returns-then-clock-time : goal.returns-then-clock-time
returns-then-clock-time g c =
    time_here c.args.session.now c.args.time c.nodes.depth c.in-Some.node.0 (plain_step c.in-Some.field-0-1.now) c.in-Some.field-0-2 c.in-Some.trace c.nodes.clock c.nodes.invariant
    (above_root c.nodes.depth (length (lineage c.args.session.now.rows c.args.session.now.current)) c.in-Some.ensures.none.1) c.in-Some.ensures.some (omega (arith, c.if-clock-time.true))

pub nodes-preserved : goal.nodes-preserved
nodes-preserved g c =
    time_up c.args.session.now c.args.time c.nodes.depth c.in-Some.node.0 (plain_step c.in-Some.field-0-1.now) c.in-Some.field-0-2 c.in-Some.trace c.nodes.clock c.nodes.invariant
    (above_root c.nodes.depth (length (lineage c.args.session.now.rows c.args.session.now.current)) c.in-Some.ensures.none.1) c.in-Some.ensures.some (omega (arith, c.if-clock-time.false)) c.clock_before-clock.result c.clock_before-clock.ensures

pub returns-then-clock-time-2 : goal.returns-then-clock-time-2
returns-then-clock-time-2 g c =
    time_root c.args.session.now c.args.time c.nodes.depth c.nodes.clock c.nodes.invariant (at_end c.args.session.now c.nodes.depth c.nodes.invariant.clocked.climb (c.in_default.ensures.none.0 refl)) (omega (arith, c.if-clock-time-2.true))

pub returns-else-clock-time-2 : goal.returns-else-clock-time-2
returns-else-clock-time-2 g c =
    time_none c.args.session.now c.args.time c.nodes.depth c.nodes.clock c.nodes.invariant (at_end c.args.session.now c.nodes.depth c.nodes.invariant.clocked.climb (c.in_default.ensures.none.0 refl)) (omega (arith, c.if-clock-time-2.false))
