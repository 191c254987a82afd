use Rattle.std.proofs.Common.{ap, sym, ◌∙◌, slice_get}
use Rattle.rev_tree.specs.Children.{children_at}
use Rattle.rev_tree.proofs.Held.{kept_rises, kept_fewer}
use Rattle.rev_tree.proofs.Spots.{path_way}
use Rattle.rev_tree.proofs.Machine.{kept_tree}
use Rattle.rev_tree.proofs.Children.{missing_children, placed_child}
use Rattle.rev_undotree.proofs.session.Session.child.Goals as goal

pub find-requires-clause-fewer : goal.find-requires-clause-fewer
find-requires-clause-fewer g c = kept_fewer _ _ _ _ _ _ _ c.self.invariant.kept

pub find-requires-clause-leads : goal.find-requires-clause-leads
find-requires-clause-leads g c = c.self.invariant.indexed.leads

pub find-requires-clause-rises : goal.find-requires-clause-rises
find-requires-clause-rises g c = kept_rises _ _ _ _ _ _ c.self.invariant.kept

pub reach-requires : goal.reach-requires
reach-requires g c = rw c.as_slice.ensures.value (path_way _ _ _ c.in-Some.ensures.some.path)

pub returns-in-Some-child : goal.returns-in-Some-child
returns-in-Some-child g c =
    rw (← c.self.view_is) (sym c.in-Some-child.is ∙ placed_child c.self.inside.issued c.self.inside.position.base c.args.node.0 c.args.index c.in-Some.at c.find.new.way.items c.as_slice.result.now c.child.result (kept_tree _ _ _ _ _ _ c.self.invariant.kept) c.in-Some.ensures.some c.as_slice.ensures.value (c.child.ensures ∙ ap (λ z. slice_get (children_at z c.in-Some.at) c.args.index) c.reach.ensures))

pub returns-in-None-child : goal.returns-in-None-child
returns-in-None-child g c =
    rw (← c.self.view_is) (sym c.in-None-child.is ∙ placed_child c.self.inside.issued c.self.inside.position.base c.args.node.0 c.args.index c.in-Some.at c.find.new.way.items c.as_slice.result.now c.child.result (kept_tree _ _ _ _ _ _ c.self.invariant.kept) c.in-Some.ensures.some c.as_slice.ensures.value (c.child.ensures ∙ ap (λ z. slice_get (children_at z c.in-Some.at) c.args.index) c.reach.ensures))

pub returns-in-None : goal.returns-in-None
returns-in-None g c = rw (← c.self.view_is) (missing_children c.self.inside.issued c.self.inside.position.base c.args.node.0 c.args.index (kept_tree _ _ _ _ _ _ c.self.invariant.kept) c.in-None.ensures.none c.in-None.ensures.missing)
