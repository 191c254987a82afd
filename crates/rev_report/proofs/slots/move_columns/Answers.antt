use Rattle.std.proofs.Common.{◌≡◌, ◌∷◌, [], ℕ, List, length, length-append, slice_get, sym, ◌∙◌, ap, subst, arith}
use Rattle.rev_figures.specs.Slots.{slot_moves}
use Rattle.rev_figures.proofs.Tallies.{rows_more}
use Rattle.rev_report.proofs.slots.move_columns.Goals as goal

-- what is drawn of a slot: one number, and no other on top of it
abbrev alone : ℕ → List ℕ
alone n = n ∷ 0 ∷ 0 ∷ 0 ∷ 0 ∷ 0 ∷ 0 ∷ 0 ∷ []

pub loop-place-preserved : goal.loop-place-preserved
loop-place-preserved c =
    let w = c.args.path.now.slot_length in
    let moves = c.args.path.now.moves.items in
    let columns = c.loop-place.columns.items in
    let one = c.column.result in
    let here = c.loop-place-test.true in
    let slots = c.in_ok-counts.ensures.count in
    let values : one.values ≡ alone (slot_moves w c.loop-place.place moves) =
    c.column.ensures.values
    ∙ ap alone (c.index.ensures ∙ c.in_ok-counts.ensures.counts c.loop-place.place _ (omega (arith, here))) in
    let longer = ap length c.in_ok-push.ensures.items in
    let more = length-append columns (one ∷ []) in
    record {
      count = omega (arith, longer, more, c.loop-place.invariant.count);
      told = λ i x e.
          rows_more (λ j y. y.values ≡ alone (slot_moves w j moves)) columns one c.loop-place.invariant.told
          (subst (λ n. one.values ≡ alone (slot_moves w n moves)) (sym c.loop-place.invariant.count) values)
          i x (ap (λ l. slice_get l i) (sym c.in_ok-push.ensures.items) ∙ e);
    }
