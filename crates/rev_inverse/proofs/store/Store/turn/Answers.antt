use Rattle.std.proofs.Common.{ap, sym, subst, ◌∙◌, ◌≡◌, arith, length}
use Rattle.rev_model.specs.Move.{Fits}
use Rattle.rev_inverse.specs.Record.{plain_change, moves_in}
use Rattle.rev_inverse.proofs.TurningRecord.{next, ended}
use Rattle.rev_inverse.proofs.store.Store.turn.Goals as goal

pub turn_change-requires-clause-well : goal.turn_change-requires-clause-well
turn_change-requires-clause-well g c =
    let fits = subst (λ l. Fits l c.args.self.now) c.len-place.ensures.whole.moves c.requires.fits in
    (next _ _ c.requires.well fits _ _ _ c.loop-place-test.true c.loop-place.invariant.0 _ c.change_mut.ensures.value).well

pub turn_change-requires-clause-possible : goal.turn_change-requires-clause-possible
turn_change-requires-clause-possible g c =
    let fits = subst (λ l. Fits l c.args.self.now) c.len-place.ensures.whole.moves c.requires.fits in
    (next _ _ c.requires.well fits _ _ _ c.loop-place-test.true c.loop-place.invariant.0 _ c.change_mut.ensures.value).fits

pub loop-place-preserved : goal.loop-place-preserved
loop-place-preserved g c =
    let fits = subst (λ l. Fits l c.args.self.now) c.len-place.ensures.whole.moves c.requires.fits in
    let n = next _ _ c.requires.well fits _ _ _ c.loop-place-test.true c.loop-place.invariant.0 _ c.change_mut.ensures.value in
    let back = plain_change c.turn_change.new.change in (
      rw c.turn_change.ensures.state (n.turned back (record { moves = c.turn_change.ensures.reverse; notes = c.turn_change.ensures.notes })),
      omega (arith, c.change_mut.ensures.room, c.loop-place.invariant.1),
    )

pub returns-clause-room : goal.returns-clause-room
returns-clause-room g c =
    let fits = subst (λ l. Fits l c.args.self.now) c.len-place.ensures.whole.moves c.requires.fits in
    let e = ended _ _ c.requires.well fits _ _ _ c.loop-place-test.false c.loop-place.invariant.0 in
    let long : length c.turn_over.new.self.moves ≡ length c.args.undo.now.moves = ap length (c.turn_over.ensures.whole.moves ∙ ap moves_in c.turn_over.ensures.changes) ∙ e.length ∙ ap length (sym c.len-place.ensures.whole.moves) in
    omega (arith, long, c.turn_over.ensures.room, c.loop-place.invariant.1)

pub returns-clause-well : goal.returns-clause-well
returns-clause-well g c =
    let fits = subst (λ l. Fits l c.args.self.now) c.len-place.ensures.whole.moves c.requires.fits in
    (ended _ _ c.requires.well fits _ _ _ c.loop-place-test.false c.loop-place.invariant.0).well

pub returns-clause-fits : goal.returns-clause-fits
returns-clause-fits g c =
    let fits = subst (λ l. Fits l c.args.self.now) c.len-place.ensures.whole.moves c.requires.fits in
    let e = ended _ _ c.requires.well fits _ _ _ c.loop-place-test.false c.loop-place.invariant.0 in
    rw (c.turn_over.ensures.whole.moves, c.turn_over.ensures.changes) e.fits

pub returns-clause-back : goal.returns-clause-back
returns-clause-back g c =
    let fits = subst (λ l. Fits l c.args.self.now) c.len-place.ensures.whole.moves c.requires.fits in
    let e = ended _ _ c.requires.well fits _ _ _ c.loop-place-test.false c.loop-place.invariant.0 in
    rw (c.turn_over.ensures.whole.moves, c.turn_over.ensures.changes, c.len-place.ensures.whole.moves) e.back
