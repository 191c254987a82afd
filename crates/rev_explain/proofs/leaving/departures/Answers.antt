use Rattle.std.proofs.Common.{refl, arith, sym, ◌∙◌, ap, subst, reverse}
use Rattle.rev_requests.specs.Plain.{plain_step}
use Rattle.rev_tree.specs.Rows.{at}
use Rattle.rev_explain.proofs.Departing.{Leaving, leave_starts, leave_more, leave_stops, leave_told}
use Rattle.rev_explain.specs.Story.{story}
use Rattle.rev_explain.specs.Told.{AreTold}
use Rattle.rev_explain.proofs.leaving.departures.Goals as goal

pub nodes-init : goal.nodes-init
nodes-init g c =
    subst (λ d. Leaving c.args.session.now d c.new-departures.result.items) (sym c.depth-depth.ensures)
    (leave_starts c.args.session.now c.new-departures.result.items c.new-departures.ensures.items)

pub nodes-preserved : goal.nodes-preserved
nodes-preserved g c =
    leave_more c.args.session.now c.nodes.depth c.in-Some.node.0 (plain_step c.in-Some.step.now) c.in-Some.outcome c.in-Some.trace c.nodes.departures.items c.add_departures.new.departures.items c.nodes.invariant
    c.in-Some.ensures.above c.in-Some.ensures.some (c.in_ok-add_departures.ensures (at c.args.session.now.root c.args.session.now.rows c.in-Some.node.0))

pub returns-clause-told : goal.returns-clause-told
returns-clause-told g c =
    let v = c.args.session.now in
    let stop = leave_stops v c.args.limit c.len.result c.nodes.depth c.nodes.departures.items c.nodes.invariant (omega (arith, c.len.ensures, c.nodes.departures.ok.0)) (c.in_default.ensures.none refl) in
    subst (AreTold c.args.limit (story v.root v.rows v.current)) (sym (c.reverse.ensures.items ∙ ap reverse c.keep.ensures))
    (leave_told v c.args.limit c.nodes.depth c.nodes.departures.items c.nodes.invariant stop)
