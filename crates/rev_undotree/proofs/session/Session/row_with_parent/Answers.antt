use Rattle.std.proofs.Common.{◌∙◌, arith, ◌-◌}
use Rattle.rev_tree.specs.Rows.{rows_of}
use Rattle.rev_tree.proofs.Held.{kept_rises, kept_fewer}
use Rattle.rev_tree.proofs.Spots.{path_way, path_within}
use Rattle.rev_tree.proofs.Machine.{kept_tree}
use Rattle.rev_tree.proofs.Trips.{placed_inside, placed_parent, missing_row, path_below, row_parent_is}
use Rattle.rev_tree.proofs.Outcomes.{placed_row, step_read, outcome_read}
use Rattle.rev_undotree.proofs.session.Session.row_with_parent.Goals as goal

pub find-requires-clause-fewer : goal.find-requires-clause-fewer
find-requires-clause-fewer g c = kept_fewer _ _ _ _ _ _ _ c.self.invariant.kept

pub find-requires-clause-leads : goal.find-requires-clause-leads
find-requires-clause-leads g c = c.self.invariant.indexed.leads

pub find-requires-clause-rises : goal.find-requires-clause-rises
find-requires-clause-rises g c = kept_rises _ _ _ _ _ _ c.self.invariant.kept

pub reach-requires : goal.reach-requires
reach-requires g c = rw c.as_slice.ensures.value (path_way _ _ _ c.in-Some.ensures.some.path)

pub overflow_sub-at : goal.overflow_sub-at
overflow_sub-at g c = let l = placed_inside c.args.node.0 _ _ _ c.if-node-eq0.false c.in-Some.ensures.some in omega (arith, l)

pub step_at-outcome-requires : goal.step_at-outcome-requires
step_at-outcome-requires g c =
    let l = placed_inside c.args.node.0 _ _ _ c.if-node-eq0.false c.in-Some.ensures.some in
    let m = path_within _ _ _ c.in-Some.ensures.some.path in
    rw (c.reach.ensures, c.as_slice.ensures.value) (omega (arith, l, m))

pub above-here-requires-clause-inside : goal.above-here-requires-clause-inside
above-here-requires-clause-inside g c = placed_inside c.args.node.0 _ _ _ c.if-node-eq0.false c.in-Some.ensures.some

pub above-here-requires-clause-proper : goal.above-here-requires-clause-proper
above-here-requires-clause-proper g c = c.in-Some.ensures.some.proper

pub number_at-parent-requires-clause-path : goal.number_at-parent-requires-clause-path
number_at-parent-requires-clause-path g c = rw c.as_slice-in-Some.ensures.value (path_below _ _ _ _ _ c.above-here.ensures.below c.in-Some.ensures.some.path)

pub number_at-parent-requires-clause-proper : goal.number_at-parent-requires-clause-proper
number_at-parent-requires-clause-proper g c = rw c.as_slice-in-Some.ensures.value c.above-here.ensures.proper

pub returns-in-Some-clause-some : goal.returns-in-Some-clause-some
returns-in-Some-clause-some g c =
    let i = c.self.inside in
    let b = i.position.base in
    let l = placed_inside c.args.node.0 _ _ _ c.if-node-eq0.false c.in-Some.ensures.some in
    let q = placed_row _ _ b i.position.way.items c.find.new.way.items c.as_slice.result.now i.position.here c.in-Some.at (c.in-Some.at - 1) i.issued c.args.node.0 _ _ c.self.invariant.kept c.in-Some.ensures.some (omega (arith, l)) c.as_slice.ensures.value (c.step_at-outcome.ensures.step ∙ step_read _ _ (c.in-Some.at - 1) c.reach.ensures) (c.step_at-outcome.ensures.outcome ∙ outcome_read _ _ (c.in-Some.at - 1) c.reach.ensures) in
    let p = placed_parent (rows_of i.issued b) c.args.node.0 c.number_at-parent.result b c.find.new.way.items c.above-here.new.way.items c.as_slice-in-Some.result.now c.in-Some.at c.above-here.result (kept_tree _ _ _ _ _ _ c.self.invariant.kept) c.in-Some.ensures.some c.above-here.ensures.below c.above-here.ensures.proper c.as_slice-in-Some.ensures.value c.number_at-parent.ensures in
    rw (← c.self.view_is) (q.0, q.1, row_parent_is (rows_of i.issued b) c.args.node.0 c.number_at-parent.result q.0 q.1 p, q.2, q.3)

pub returns-in-None-clause-none : goal.returns-in-None-clause-none
returns-in-None-clause-none g c = rw (← c.self.view_is) (missing_row c.self.inside.issued c.self.inside.position.base c.args.node.0 c.in-None.ensures.missing)
