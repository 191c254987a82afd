use Rattle.std.proofs.Common.{refl, ◌∙◌, ◌+◌, arith, suc, add-one}
use Rattle.rev_tree.specs.Trips.{stay, stand, down}
use Rattle.rev_tree.proofs.Moves.{moved_start, moved_ready, moved_on, depth_below, must_retreat}
use Rattle.rev_tree.proofs.Paths.{path_same, on_depth, arrived}
use Rattle.rev_tree.proofs.Trips.{climb_depth, descent_depth, climb_more, trip_end}
use Rattle.rev_tree.proofs.position.Position.go.Goals as goal

pub back-init : goal.back-init
back-init g c = (moved_start _ _ _ _ _ c.requires.stands c.requires.proper, stay, refl)

pub retreat-requires-clause-stands : goal.retreat-requires-clause-stands
retreat-requires-clause-stands g c = moved_ready _ _ _ _ _ _ c.back.invariant.0

pub retreat-requires-clause-below : goal.retreat-requires-clause-below
retreat-requires-clause-below g c = must_retreat c.back.self.way.items c.as_slice.result.now c.back.self.here c.args.target.now c.args.at c.is_on_way.result c.as_slice.ensures.value c.back.invariant.0.proper c.is_on_way.ensures.1 c.back-test.true

pub back-smaller : goal.back-smaller
back-smaller g c = let h = depth_below _ _ _ _ c.retreat.ensures.below in omega (arith, h)

pub back-preserved : goal.back-preserved
back-preserved g c = (
  moved_on _ _ _ _ _ _ _ _ _ _ c.back.invariant.0 c.retreat.ensures.moved,
  climb_more c.args.target.now c.args.at c.args.self.now.way.items c.args.self.now.here c.back.self.way.items c.as_slice.result.now c.back.self.here c.back.turns (c.back.turns + 1) c.retreat.new.self.way.items c.retreat.new.self.here c.is_on_way.result c.as_slice.ensures.value (add-one c.back.turns) c.back.invariant.1 c.is_on_way.ensures.1 c.back-test.true c.retreat.ensures.below c.retreat.ensures.moved.proper,
  c.retreat.ensures.index ∙ c.back.invariant.2,
)

pub on-init : goal.on-init
on-init g c = (moved_start _ _ _ _ _ (moved_ready _ _ _ _ _ _ c.back.invariant.0) c.back.invariant.0.proper, rw (← c.as_slice.ensures.value) (c.is_on_way.ensures.0 c.back-test.false), (0, omega arith, stand), refl)

pub follow-requires-clause-stands : goal.follow-requires-clause-stands
follow-requires-clause-stands g c = moved_ready _ _ _ _ _ _ c.on.invariant.0

pub follow-requires-clause-path : goal.follow-requires-clause-path
follow-requires-clause-path g c = path_same _ _ _ _ c.on.invariant.0.same (path_same _ _ _ _ c.back.invariant.0.same c.requires.path)

pub on-smaller : goal.on-smaller
on-smaller g c =
    let h = depth_below _ _ _ _ c.follow.ensures.below in
    let o = on_depth _ _ _ _ c.follow.ensures.on in
    omega (arith, h, o)

pub on-preserved : goal.on-preserved
on-preserved g c =
    let i = c.on.invariant.2 in
    let e = i.1 in (
      moved_on _ _ _ _ _ _ _ _ _ _ c.on.invariant.0 c.follow.ensures.moved,
      c.follow.ensures.on,
      (suc i.0, omega (arith, e), down c.follow.new.self.way.items c.follow.new.self.here i.2 c.follow.ensures.below c.follow.ensures.on c.follow.ensures.moved.proper),
      c.follow.ensures.index ∙ c.on.invariant.3,
    )

pub returns-clause-moved : goal.returns-clause-moved
returns-clause-moved g c = moved_on _ _ _ _ _ _ _ _ _ _ c.back.invariant.0 c.on.invariant.0

pub returns-clause-way : goal.returns-clause-way
returns-clause-way g c = let r = c.is_at.ensures.0 c.on-test.false in (arrived _ _ _ _ c.on.invariant.1 r.0 r.1).0

pub returns-clause-here : goal.returns-clause-here
returns-clause-here g c = let r = c.is_at.ensures.0 c.on-test.false in (arrived _ _ _ _ c.on.invariant.1 r.0 r.1).1

pub returns-clause-trip : goal.returns-clause-trip
returns-clause-trip g c =
    let r = c.is_at.ensures.0 c.on-test.false in
    let a = arrived _ _ _ _ c.on.invariant.1 r.0 r.1 in
    let i = c.on.invariant.2 in
    trip_end c.args.target.now c.args.at c.args.self.now.way.items c.args.self.now.here c.back.self.way.items c.back.self.here c.on.self.way.items c.on.self.here c.back.turns i.0 c.on.turns c.back.invariant.1 (rw (← c.as_slice.ensures.value) (c.is_on_way.ensures.0 c.back-test.false)) i.2 a.0 a.1 i.1

pub overflow_add-turns : goal.overflow_add-turns
overflow_add-turns g c =
    let d = climb_depth c.args.target.now c.args.at c.args.self.now.way.items c.args.self.now.here c.back.self.way.items c.back.self.here c.back.turns c.back.invariant.1 in
    let h = depth_below _ _ _ _ c.retreat.ensures.below in
    let f = c.requires.few in
    omega (arith, d, h, f)

pub overflow_add-turns-in-on : goal.overflow_add-turns-in-on
overflow_add-turns-in-on g c =
    let d = climb_depth c.args.target.now c.args.at c.args.self.now.way.items c.args.self.now.here c.back.self.way.items c.back.self.here c.back.turns c.back.invariant.1 in
    let i = c.on.invariant.2 in
    let e = i.1 in
    let k = descent_depth c.args.target.now c.args.at c.back.self.way.items c.back.self.here c.on.self.way.items c.on.self.here i.0 i.2 in
    let h = depth_below _ _ _ _ c.follow.ensures.below in
    let o = on_depth _ _ _ _ c.follow.ensures.on in
    let f = c.requires.few in
    omega (arith, d, e, k, h, o, f)

pub returns-clause-index : goal.returns-clause-index
returns-clause-index g c = c.on.invariant.3 ∙ c.back.invariant.2
