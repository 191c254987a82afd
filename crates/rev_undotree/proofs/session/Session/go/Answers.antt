use Rattle.std.proofs.Common.{sym, refl, subst}
use Rattle.rev_tree.specs.Paths.{IsPath}
use Rattle.rev_tree.specs.Positions.{Proper}
use Rattle.std.proofs.Common.{ap}
use Rattle.rev_undotree.proofs.Mentioned.{moved_noted}
use Rattle.rev_tree.proofs.Indexes.{index_moved}
use Rattle.rev_tree.proofs.Positions.{moved_kept, moved_state}
use Rattle.rev_tree.proofs.Held.{placed_held, missing_held, kept_rises, kept_fewer, went_state}
use Rattle.rev_tree.proofs.Trips.{depth_few, go_distance}
use Rattle.rev_undotree.proofs.session.Session.go.Goals as goal

pub find-requires-clause-fewer : goal.find-requires-clause-fewer
find-requires-clause-fewer g c = kept_fewer _ _ _ _ _ _ _ c.self.invariant.kept

pub find-requires-clause-leads : goal.find-requires-clause-leads
find-requires-clause-leads g c = c.self.invariant.indexed.leads

pub find-requires-clause-rises : goal.find-requires-clause-rises
find-requires-clause-rises g c = kept_rises _ _ _ _ _ _ c.self.invariant.kept

pub go-requires-clause-path : goal.go-requires-clause-path
go-requires-clause-path g c = subst (λ z. IsPath c.self.inside.position.base z c.in-Some.at) (sym c.as_slice.ensures.value) c.in-Some.ensures.some.path

pub go-requires-clause-goal : goal.go-requires-clause-goal
go-requires-clause-goal g c = subst (λ z. Proper z c.in-Some.at) (sym c.as_slice.ensures.value) c.in-Some.ensures.some.proper

pub invariant_of-self : goal.invariant_of-self
invariant_of-self g c =
    let i = c.self.inside.position in
    let n = c.go.new.self in
    let m = moved_state _ i.store n.store i.base n.base i.way.items n.way.items i.here n.here c.self.inside.issued _ c.go.ensures.moved refl in
    moved_noted _ _ _ _ _ _ _ _ _ _ _ _ i.index n.index c.self.invariant (moved_kept _ _ _ _ _ _ _ _ _ _ c.self.invariant.kept c.go.ensures.moved) (ap (λ v. v.root) m) (ap (λ v. v.rows) m) (index_moved i.index n.index i.base n.base c.self.inside.issued c.self.invariant.indexed c.go.ensures.moved.same c.go.ensures.index)

pub returns-in-Some-clause-held : goal.returns-in-Some-clause-held
returns-in-Some-clause-held g c = (λ _. rw (← c.self.view_is) (placed_held _ _ _ _ _ _ _ _ _ c.self.invariant.kept c.in-Some.ensures.some), λ _. refl)

pub returns-in-Some-clause-ok : goal.returns-in-Some-clause-ok
returns-in-Some-clause-ok g c =
    let i = c.self.inside.position in
    let n = c.go.new.self in
    rw (← c.self.view_is) (went_state _ i.store n.store i.base n.base i.way.items n.way.items c.as_slice.result.now c.find.new.way.items i.here n.here c.in-Some.at c.self.inside.issued c.args.node.0 c.go.ensures.moved c.in-Some.ensures.some c.as_slice.ensures.value c.go.ensures.way c.go.ensures.here)

pub returns-in-None-clause-held : goal.returns-in-None-clause-held
returns-in-None-clause-held g c = (λ e. cc, λ e. absurd (missing_held c.self.inside.position.base c.self.inside.issued c.args.node.0 c.in-None.ensures.none c.in-None.ensures.missing (rw (← c.self.view_is) at e)))

pub go-requires-clause-few : goal.go-requires-clause-few
go-requires-clause-few g c = rw c.as_slice.ensures.value (depth_few _ _ c.self.inside.position.base c.self.inside.position.way.items c.find.new.way.items c.self.inside.position.here c.in-Some.at c.self.inside.issued c.args.node.0 c.self.invariant.kept c.in-Some.ensures.some)

pub returns-in-Some-clause-turns : goal.returns-in-Some-clause-turns
returns-in-Some-clause-turns g c =
    rw (← c.self.view_is) (go_distance _ _ c.self.inside.position.base c.self.inside.position.way.items c.find.new.way.items c.as_slice.result.now c.self.inside.position.here c.in-Some.at c.self.inside.issued c.args.node.0 c.go.result c.self.invariant.kept c.in-Some.ensures.some c.as_slice.ensures.value c.go.ensures.trip)
