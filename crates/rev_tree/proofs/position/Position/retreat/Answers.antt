use Rattle.std.proofs.Common.{◌≡◌, ◌-◌, suc, arith}
use Rattle.rev_tree.proofs.Positions.{stands_way, back_fits_at, back_step, back_leave, below_leave, back_stay, below_stay, below_along, Proper-at}
use Rattle.rev_tree.proofs.position.Position.retreat.Goals as goal

pub turn-requires-clause-way : goal.turn-requires-clause-way
turn-requires-clause-way g c = rw c.as_slice.ensures.value (stands_way _ _ _ _ _ c.requires.stands)

pub turn-requires-clause-fits : goal.turn-requires-clause-fits
turn-requires-clause-fits g c =
    let e : c.args.self.now.here ≡ suc (c.args.self.now.here - 1) = omega arith in
    back_fits_at _ c.args.self.now.store c.args.self.now.base c.args.self.now.way.items c.args.self.now.here (c.args.self.now.here - 1) c.as_slice.result.now e c.as_slice.ensures.value c.requires.stands

pub returns-in-Some-clause-moved : goal.returns-in-Some-clause-moved
returns-in-Some-clause-moved g c =
    let e : c.args.self.now.here ≡ suc (c.args.self.now.here - 1) = omega arith in
    let p = back_step _ c.args.self.now.store c.args.self.now.base c.args.self.now.way.items c.args.self.now.here (c.args.self.now.here - 1) c.turn.new.store c.turn.new.self c.as_slice.result.now e c.requires.stands c.as_slice.ensures.value c.turn.ensures.state c.turn.ensures.tree in
    back_leave _ _ _ _ c.args.self.now.way.items c.pop.new.self.items c.in-Some.junction c.args.self.now.here (c.args.self.now.here - 1) e c.if-at-eq0.true c.in-Some.ensures.items c.requires.proper p

pub returns-in-Some-clause-below : goal.returns-in-Some-clause-below
returns-in-Some-clause-below g c =
    let e : c.args.self.now.here ≡ suc (c.args.self.now.here - 1) = omega arith in
    below_leave _ _ _ _ (c.args.self.now.here - 1) e c.if-at-eq0.true c.in-Some.ensures.items

pub returns-in-None-clause-moved : goal.returns-in-None-clause-moved
returns-in-None-clause-moved g c =
    let e : c.args.self.now.here ≡ suc (c.args.self.now.here - 1) = omega arith in
    let p = back_step _ c.args.self.now.store c.args.self.now.base c.args.self.now.way.items c.args.self.now.here (c.args.self.now.here - 1) c.turn.new.store c.turn.new.self c.as_slice.result.now e c.requires.stands c.as_slice.ensures.value c.turn.ensures.state c.turn.ensures.tree in
    back_stay _ _ _ _ c.args.self.now.way.items c.pop.new.self.items (c.args.self.now.here - 1) c.in-None.ensures.items (λ l. let h = c.in-None.ensures.variant.1 l in cc) p

pub returns-in-None-clause-below : goal.returns-in-None-clause-below
returns-in-None-clause-below g c =
    let e : c.args.self.now.here ≡ suc (c.args.self.now.here - 1) = omega arith in
    below_stay _ _ _ (c.args.self.now.here - 1) e c.in-None.ensures.items

pub returns-else-at-eq0-clause-moved : goal.returns-else-at-eq0-clause-moved
returns-else-at-eq0-clause-moved g c =
    let e : c.args.self.now.here ≡ suc (c.args.self.now.here - 1) = omega arith in
    let p = back_step _ c.args.self.now.store c.args.self.now.base c.args.self.now.way.items c.args.self.now.here (c.args.self.now.here - 1) c.turn.new.store c.turn.new.self c.as_slice.result.now e c.requires.stands c.as_slice.ensures.value c.turn.ensures.state c.turn.ensures.tree in
    record { stands = p.0; same = p.1; proper = Proper-at _ c.args.self.now.here _ (omega arith) c.requires.proper }

pub returns-else-at-eq0-clause-below : goal.returns-else-at-eq0-clause-below
returns-else-at-eq0-clause-below g c =
    let e : c.args.self.now.here ≡ suc (c.args.self.now.here - 1) = omega arith in
    below_along _ _ _ e
