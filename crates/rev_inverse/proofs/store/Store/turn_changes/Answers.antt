use Rattle.std.proofs.Common.{◌≡◌, ◌-◌, ◌<◌, Bool, List, length, map, slice_index_or, arith, ap, subst, sym, ◌∙◌, refl}
use Rattle.std.proofs.lemmas.List.{length-map, length-set}
use Rattle.rev_inverse.specs.declared.changes.Change.{Change}
use Rattle.rev_inverse.proofs.Lists.{length-in_order, turned-over, shown, written}
use Rattle.rev_inverse.specs.Record.{plain_change, in_order, place_in, moves_in, notes_in}
use Rattle.rev_inverse.proofs.TurningRecord.{IsTurnedFrom, next, ended, turned_none}
use Rattle.rev_inverse.proofs.store.Store.turn_changes.Goals as goal

long : {A : Type 0} (b : Bool) (ms : List (Change A)) → length (in_order b (map plain_change ms)) ≡ length ms
long b ms = length-in_order b (map plain_change ms) ∙ length-map ms plain_change

pub loop-place-init : goal.loop-place-init
loop-place-init g c =
    let gs = in_order c.args.is_turned (map plain_change c.args.changes.now) in
    (subst (λ n. IsTurnedFrom gs c.args.self.now n c.args.self.now gs) (long c.args.is_turned c.args.changes.now) (turned_none gs c.args.self.now), refl)

pub place_of-at-requires : goal.place_of-at-requires
place_of-at-requires g c = omega (arith, c.loop-place-test.true, c.loop-place.invariant.0.within, long c.args.is_turned c.args.changes.now)

pub turn_change-requires-clause-well : goal.turn_change-requires-clause-well
turn_change-requires-clause-well g c =
    let lt : c.loop-place.place - 1 < length c.loop-place.changes = omega (arith, c.loop-place-test.true, c.loop-place.invariant.0.within, long c.args.is_turned c.args.changes.now, c.loop-place.invariant.1) in
    let place = c.place_of-at.ensures.place ∙ ap (place_in c.args.is_turned (c.loop-place.place - 1)) (sym c.loop-place.invariant.1) in
    (next _ _ c.requires.well c.requires.fits _ _ _ c.loop-place-test.true c.loop-place.invariant.0 _ (shown c.args.is_turned _ _ _ _ lt place (ap (slice_index_or c.loop-place.changes c.place_of-at.result) c.index-changes-at.is))).well

pub turn_change-requires-clause-possible : goal.turn_change-requires-clause-possible
turn_change-requires-clause-possible g c =
    let lt : c.loop-place.place - 1 < length c.loop-place.changes = omega (arith, c.loop-place-test.true, c.loop-place.invariant.0.within, long c.args.is_turned c.args.changes.now, c.loop-place.invariant.1) in
    let place = c.place_of-at.ensures.place ∙ ap (place_in c.args.is_turned (c.loop-place.place - 1)) (sym c.loop-place.invariant.1) in
    (next _ _ c.requires.well c.requires.fits _ _ _ c.loop-place-test.true c.loop-place.invariant.0 _ (shown c.args.is_turned _ _ _ _ lt place (ap (slice_index_or c.loop-place.changes c.place_of-at.result) c.index-changes-at.is))).fits

pub loop-place-preserved : goal.loop-place-preserved
loop-place-preserved g c =
    let lt : c.loop-place.place - 1 < length c.loop-place.changes = omega (arith, c.loop-place-test.true, c.loop-place.invariant.0.within, long c.args.is_turned c.args.changes.now, c.loop-place.invariant.1) in
    let place = c.place_of-at.ensures.place ∙ ap (place_in c.args.is_turned (c.loop-place.place - 1)) (sym c.loop-place.invariant.1) in
    let n = next _ _ c.requires.well c.requires.fits _ _ _ c.loop-place-test.true c.loop-place.invariant.0 _ (shown c.args.is_turned _ _ _ _ lt place (ap (slice_index_or c.loop-place.changes c.place_of-at.result) c.index-changes-at.is)) in
    let back = plain_change c.turn_change.new.change in (
      rw (c.turn_change.ensures.state, written c.args.is_turned c.loop-place.changes (c.loop-place.place - 1) c.place_of-at.result c.turn_change.new.change lt place)
          (n.turned back (record { moves = c.turn_change.ensures.reverse; notes = c.turn_change.ensures.notes })),
      length-set c.loop-place.changes c.place_of-at.result c.turn_change.new.change ∙ c.loop-place.invariant.1,
    )

pub returns-clause-state : goal.returns-clause-state
returns-clause-state g c = (ended _ _ c.requires.well c.requires.fits _ _ _ c.loop-place-test.false c.loop-place.invariant.0).state

pub returns-clause-moves : goal.returns-clause-moves
returns-clause-moves g c =
    ap moves_in (turned-over c.args.is_turned (map plain_change c.loop-place.changes))
    ∙ (ended _ _ c.requires.well c.requires.fits _ _ _ c.loop-place-test.false c.loop-place.invariant.0).moves

pub returns-clause-notes : goal.returns-clause-notes
returns-clause-notes g c =
    ap notes_in (turned-over c.args.is_turned (map plain_change c.loop-place.changes))
    ∙ (ended _ _ c.requires.well c.requires.fits _ _ _ c.loop-place-test.false c.loop-place.invariant.0).notes

pub returns-clause-well : goal.returns-clause-well
returns-clause-well g c = (ended _ _ c.requires.well c.requires.fits _ _ _ c.loop-place-test.false c.loop-place.invariant.0).well
