use Rattle.std.proofs.Common.{sym, refl}
use Rattle.std.proofs.Common.{ap}
use Rattle.rev_undotree.proofs.Mentioned.{moved_noted}
use Rattle.rev_tree.proofs.Indexes.{index_moved}
use Rattle.rev_tree.proofs.Positions.{stands_way, number_root, moved_kept, moved_state, moved_parent}
use Rattle.rev_undotree.proofs.session.Session.back.Goals as goal

pub returns-then-self-eq0-clause-err : goal.returns-then-self-eq0-clause-err
returns-then-self-eq0-clause-err g c = (rw (← c.self.view_is) (sym (number_root _ _ _ c.self.invariant.kept.proper c.if-self-eq0.true)), refl)

pub number-requires-clause-way : goal.number-requires-clause-way
number-requires-clause-way g c = stands_way _ _ _ _ _ c.retreat.ensures.moved.stands

pub invariant_of-self : goal.invariant_of-self
invariant_of-self g c =
    let i = c.self.inside.position in
    let n = c.retreat.new.self in
    let m = moved_state _ i.store n.store i.base n.base i.way.items n.way.items i.here n.here c.self.inside.issued _ c.retreat.ensures.moved refl in
    moved_noted _ _ _ _ _ _ _ _ _ _ _ _ i.index n.index c.self.invariant (moved_kept _ _ _ _ _ _ _ _ _ _ c.self.invariant.kept c.retreat.ensures.moved) (ap (λ v. v.root) m) (ap (λ v. v.rows) m) (index_moved i.index n.index i.base n.base c.self.inside.issued c.self.invariant.indexed c.retreat.ensures.moved.same c.retreat.ensures.index)

pub returns-clause-ok : goal.returns-clause-ok
returns-clause-ok g c =
    let i = c.self.inside.position in
    let n = c.retreat.new.self in (
      rw (← c.self.view_is) (moved_parent _ i.store n.store i.base n.base i.way.items n.way.items i.here n.here c.self.inside.issued c.number.result c.self.invariant.kept c.retreat.ensures.moved c.retreat.ensures.below c.number.ensures),
      rw (← c.self.view_is) (moved_state _ i.store n.store i.base n.base i.way.items n.way.items i.here n.here c.self.inside.issued c.number.result c.retreat.ensures.moved c.number.ensures),
    )
