use Rattle.rev_tree.proofs.Held.{kept_rises, kept_fewer}
use Rattle.rev_tree.proofs.Machine.{kept_tree}
use Rattle.rev_tree.proofs.Trips.{placed_inside, placed_parent, missing_parent, path_below}
use Rattle.rev_undotree.proofs.session.Session.parent.Goals as goal

pub find-requires-clause-fewer : goal.find-requires-clause-fewer
find-requires-clause-fewer g c = kept_fewer _ _ _ _ _ _ _ c.self.invariant.kept

pub find-requires-clause-leads : goal.find-requires-clause-leads
find-requires-clause-leads g c = c.self.invariant.indexed.leads

pub find-requires-clause-rises : goal.find-requires-clause-rises
find-requires-clause-rises g c = kept_rises _ _ _ _ _ _ c.self.invariant.kept

pub above-here-requires-clause-inside : goal.above-here-requires-clause-inside
above-here-requires-clause-inside g c = placed_inside c.args.node.0 _ _ _ c.if-node-eq0.false c.in-Some.ensures.some

pub above-here-requires-clause-proper : goal.above-here-requires-clause-proper
above-here-requires-clause-proper g c = c.in-Some.ensures.some.proper

pub number_at-requires-clause-path : goal.number_at-requires-clause-path
number_at-requires-clause-path g c = rw c.as_slice.ensures.value (path_below _ _ _ _ _ c.above-here.ensures.below c.in-Some.ensures.some.path)

pub number_at-requires-clause-proper : goal.number_at-requires-clause-proper
number_at-requires-clause-proper g c = rw c.as_slice.ensures.value c.above-here.ensures.proper

pub returns-in-Some : goal.returns-in-Some
returns-in-Some g c =
    rw (← c.self.view_is) (placed_parent _ c.args.node.0 c.number_at.result c.self.inside.position.base c.find.new.way.items c.above-here.new.way.items c.as_slice.result.now c.in-Some.at c.above-here.result (kept_tree _ _ _ _ _ _ c.self.invariant.kept) c.in-Some.ensures.some c.above-here.ensures.below c.above-here.ensures.proper c.as_slice.ensures.value c.number_at.ensures)

pub returns-in-None : goal.returns-in-None
returns-in-None g c = rw (← c.self.view_is) (missing_parent c.self.inside.issued c.self.inside.position.base c.args.node.0 c.in-None.ensures.missing)
