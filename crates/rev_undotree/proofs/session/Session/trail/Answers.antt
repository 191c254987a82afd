use Rattle.std.proofs.Common.{◌≤◌, ◌-◌, length, get_or, take, arith, ap, sym, refl, subst, inr, ⊎_elim}
use Rattle.rev_tree.specs.Ways.{IsWay, no_node}
use Rattle.rev_tree.proofs.Machine.{kept_tree, kept_path}
use Rattle.rev_tree.proofs.Trips.{lineage_depth, depth_within}
use Rattle.rev_tree.proofs.Spots.{path_way}
use Rattle.rev_tree.proofs.Trails.{cut_inside, take_length, trailed, trailed_parts, cut_place}
use Rattle.rev_undotree.proofs.session.Session.trail.Goals as goal

pub depth-requires : goal.depth-requires
depth-requires g c = depth_within _ _ _ _ _ _ c.self.invariant.kept

pub returns-then-depth-clause-none : goal.returns-then-depth-clause-none
returns-then-depth-clause-none g c =
    let i = c.self.inside.position in
    let l = lineage_depth _ i.base i.way.items i.here (kept_tree _ _ _ _ _ _ c.self.invariant.kept) (kept_path _ _ _ _ _ _ c.self.invariant.kept) c.self.invariant.kept.proper in
    let e = c.depth.ensures in
    let t = c.if-depth.true in
    rw (← c.self.view_is) (λ _. inr (omega (arith, l, e, t)), λ _. refl)

pub slice_bounds-reach-end : goal.slice_bounds-reach-end
slice_bounds-reach-end g c = sym (take_length _ c.ancestor-level.result.0 (subst (λ z. c.ancestor-level.result.0 ≤ length z) (sym c.deref.ensures.0) c.ancestor-level.ensures.within))

pub reach-branch-requires : goal.reach-branch-requires
reach-branch-requires g c =
    let i = c.self.inside.position in
    let p = kept_path _ _ _ _ _ _ c.self.invariant.kept in
    let e = c.depth.ensures in
    let t = c.if-depth.false in
    let z = c.if-depth-eq0.false in
    let n = cut_inside i.base i.way.items _ i.here c.args.depth c.ancestor-level.result.1 p (omega (arith, z)) (omega (arith, e, t)) c.ancestor-level.ensures.cut in
    subst (λ x. IsWay i.base (take c.ancestor-level.result.0 x)) (sym c.deref.ensures.0) (path_way _ _ _ n.1)

pub overflow_sub-place : goal.overflow_sub-place
overflow_sub-place g c =
    let i = c.self.inside.position in
    let p = kept_path _ _ _ _ _ _ c.self.invariant.kept in
    let e = c.depth.ensures in
    let t = c.if-depth.false in
    let z = c.if-depth-eq0.false in
    let n = cut_inside i.base i.way.items _ i.here c.args.depth c.ancestor-level.result.1 p (omega (arith, z)) (omega (arith, e, t)) c.ancestor-level.ensures.cut in
    let l = n.0 in
    omega (arith, l)

pub step_at-outcome-requires : goal.step_at-outcome-requires
step_at-outcome-requires g c =
    let i = c.self.inside.position in
    let e = c.depth.ensures in
    let t = c.if-depth.false in
    let z = c.if-depth-eq0.false in
    cut_place i.base i.way.items _ _ i.here c.args.depth c.ancestor-level.result.1 _ (kept_path _ _ _ _ _ _ c.self.invariant.kept) (omega (arith, z)) (omega (arith, e, t)) c.ancestor-level.ensures.cut (ap (λ x. take c.ancestor-level.result.0 x) c.deref.ensures.0) c.reach-branch.ensures

pub number-number-requires : goal.number-number-requires
number-number-requires g c =
    let i = c.self.inside.position in
    let e = c.depth.ensures in
    let t = c.if-depth.false in
    let z = c.if-depth-eq0.false in
    cut_place i.base i.way.items _ _ i.here c.args.depth c.ancestor-level.result.1 _ (kept_path _ _ _ _ _ _ c.self.invariant.kept) (omega (arith, z)) (omega (arith, e, t)) c.ancestor-level.ensures.cut (ap (λ x. take c.ancestor-level.result.0 x) c.deref.ensures.0) c.reach-branch.ensures

pub record-requires : goal.record-requires
record-requires g c =
    let i = c.self.inside.position in
    let e = c.depth.ensures in
    let t = c.if-depth.false in
    let z = c.if-depth-eq0.false in
    cut_place i.base i.way.items _ _ i.here c.args.depth c.ancestor-level.result.1 _ (kept_path _ _ _ _ _ _ c.self.invariant.kept) (omega (arith, z)) (omega (arith, e, t)) c.ancestor-level.ensures.cut (ap (λ x. take c.ancestor-level.result.0 x) c.deref.ensures.0) c.reach-branch.ensures

pub returns-clause-some : goal.returns-clause-some
returns-clause-some g c =
    let i = c.self.inside.position in
    let p = kept_path _ _ _ _ _ _ c.self.invariant.kept in
    let e = c.depth.ensures in
    let t = c.if-depth.false in
    let z = c.if-depth-eq0.false in
    let n = cut_inside i.base i.way.items _ i.here c.args.depth c.ancestor-level.result.1 p (omega (arith, z)) (omega (arith, e, t)) c.ancestor-level.ensures.cut in
    let l = n.0 in
    let j = c.ancestor-level.result.1 - 1 in
    let x = get_or c.reach-branch.result.now.run j no_node in
    rw (← c.self.view_is) (trailed_parts _ _ _ _ _ _ x c.number-number.ensures c.step_at-outcome.ensures.step c.step_at-outcome.ensures.outcome c.«record».ensures (trailed _ i.store i.base i.way.items (take c.ancestor-level.result.0 i.way.items) _ i.here c.args.depth c.ancestor-level.result.1 j c.self.inside.issued x c.reach-branch.result.now c.self.invariant.kept (omega (arith, z)) (omega (arith, e, t)) c.ancestor-level.ensures.cut (omega (arith, l)) (ap (λ x. take c.ancestor-level.result.0 x) c.deref.ensures.0) c.reach-branch.ensures refl))

pub returns-clause-none : goal.returns-clause-none
returns-clause-none g c =
    let i = c.self.inside.position in
    let l = lineage_depth _ i.base i.way.items i.here (kept_tree _ _ _ _ _ _ c.self.invariant.kept) (kept_path _ _ _ _ _ _ c.self.invariant.kept) c.self.invariant.kept.proper in
    let e = c.depth.ensures in
    let t = c.if-depth.false in
    rw (← c.self.view_is) (λ h. cc, λ h. absurd (⊎_elim (λ z. c.if-depth-eq0.false z) (λ z. omega (arith, l, e, t, z)) h))
