use Rattle.std.proofs.Common.{◌≡◌, ◌∷◌, [], length, length-append, slice_get, sym, ◌∙◌, ap, subst, arith}
use Rattle.rev_figures.specs.Slots.{slot_counts}
use Rattle.rev_figures.proofs.Tallies.{rows_more}
use Rattle.rev_report.specs.Cells.{causes_of}
use Rattle.rev_report.proofs.slots.left_columns.Goals as goal

pub loop-place-preserved : goal.loop-place-preserved
loop-place-preserved c =
    let w = c.args.path.now.slot_length in
    let ls = c.args.path.now.leavings.items in
    let columns = c.loop-place.columns.items in
    let one = c.column.result in
    let here = c.loop-place-test.true in
    let slots = c.in_ok-counts.ensures.count in
    let values : one.values ≡ causes_of (slot_counts w c.loop-place.place ls) =
    c.column.ensures.values
    ∙ c.cause_numbers.ensures
    ∙ ap causes_of (c.index.ensures ∙ c.in_ok-counts.ensures.counts c.loop-place.place _ (omega (arith, here))) in
    let longer = ap length c.in_ok-push.ensures.items in
    let more = length-append columns (one ∷ []) in
    record {
      count = omega (arith, longer, more, c.loop-place.invariant.count);
      told = λ i x e.
          rows_more (λ j y. y.values ≡ causes_of (slot_counts w j ls)) columns one c.loop-place.invariant.told
          (subst (λ n. one.values ≡ causes_of (slot_counts w n ls)) (sym c.loop-place.invariant.count) values)
          i x (ap (λ l. slice_get l i) (sym c.in_ok-push.ensures.items) ∙ e);
    }
