use Rattle.std.proofs.Common.{◌∙◌, arith, ◌-◌}
use Rattle.rev_tree.proofs.Held.{kept_rises, kept_fewer}
use Rattle.rev_tree.proofs.Spots.{path_way, path_within}
use Rattle.rev_tree.proofs.Trips.{placed_inside, missing_row}
use Rattle.rev_tree.proofs.Outcomes.{placed_row, step_read, outcome_read}
use Rattle.rev_undotree.proofs.session.Session.row.Goals as goal

pub find-requires-clause-fewer : goal.find-requires-clause-fewer
find-requires-clause-fewer g c = kept_fewer _ _ _ _ _ _ _ c.self.invariant.kept

pub find-requires-clause-leads : goal.find-requires-clause-leads
find-requires-clause-leads g c = c.self.invariant.indexed.leads

pub find-requires-clause-rises : goal.find-requires-clause-rises
find-requires-clause-rises g c = kept_rises _ _ _ _ _ _ c.self.invariant.kept

pub reach-requires : goal.reach-requires
reach-requires g c = rw c.as_slice.ensures.value (path_way _ _ _ c.in-Some.ensures.some.path)

pub step_at-requires : goal.step_at-requires
step_at-requires g c =
    let l = placed_inside c.args.node.0 _ _ _ c.if-node-eq0.false c.in-Some.ensures.some in
    let m = path_within _ _ _ c.in-Some.ensures.some.path in
    rw (c.reach.ensures, c.as_slice.ensures.value) (omega (arith, l, m))

pub returns-in-Some-clause-some : goal.returns-in-Some-clause-some
returns-in-Some-clause-some g c =
    let l = placed_inside c.args.node.0 _ _ _ c.if-node-eq0.false c.in-Some.ensures.some in
    rw (← c.self.view_is) (placed_row _ _ c.self.inside.position.base c.self.inside.position.way.items c.find.new.way.items c.as_slice.result.now c.self.inside.position.here c.in-Some.at (c.in-Some.at - 1) c.self.inside.issued c.args.node.0 _ _ c.self.invariant.kept c.in-Some.ensures.some (omega (arith, l)) c.as_slice.ensures.value (c.step_at.ensures.step ∙ step_read _ _ (c.in-Some.at - 1) c.reach.ensures) (c.step_at.ensures.outcome ∙ outcome_read _ _ (c.in-Some.at - 1) c.reach.ensures))

pub returns-in-None-clause-none : goal.returns-in-None-clause-none
returns-in-None-clause-none g c = rw (← c.self.view_is) (missing_row c.self.inside.issued c.self.inside.position.base c.args.node.0 c.in-None.ensures.missing)

pub overflow_sub-at : goal.overflow_sub-at
overflow_sub-at g c = let l = placed_inside c.args.node.0 _ _ _ c.if-node-eq0.false c.in-Some.ensures.some in omega (arith, l)
