use Rattle.std.proofs.Common.{◌≡◌, ◌+◌, ◌∷◌, [], length, length-append, slice_get, sym, ◌∙◌, ap, subst, arith}
use Rattle.rev_figures.specs.Classes.{step_counts, left_counts, IsFigures}
use Rattle.rev_figures.proofs.Tallies.{rows_more}
use Rattle.rev_figures.proofs.classes.class_figures.Goals as goal

pub figures_of-requires : goal.figures_of-requires
figures_of-requires g c =
    c.index-in-loop-before.ensures
    ∙ c.in_ok-left.ensures.counts c.place_of-place.result _ c.place_of-place.ensures.within
    ∙ ap (λ k. left_counts k c.deref-2.result.now) c.place_of-place.ensures.value
    ∙ ap (left_counts (c.loop-before.before + 1)) (c.deref-2.ensures.value ∙ sym c.deref-in-loop-before.ensures.value)

pub loop-before-preserved : goal.loop-before-preserved
loop-before-preserved g c =
    let ss = c.args.path.now.steps.items in
    let ls = c.args.path.now.leavings.items in
    let rows = c.loop-before.rows.items in
    let class = c.loop-before.before + 1 in
    let row = c.in_ok-figures_of.field-0 in
    let counted : c.index.result.now ≡ step_counts class ss =
    c.index.ensures
    ∙ c.in_ok-steps.ensures.counts c.place_of-place.result _ c.place_of-place.ensures.within
    ∙ ap (λ k. step_counts k c.deref.result.now) c.place_of-place.ensures.value
    ∙ ap (step_counts class) c.deref.ensures.value in
    let told : IsFigures ss ls class row = subst (λ l. IsFigures ss l class row) c.deref-in-loop-before.ensures.value (c.in_ok-figures_of.ensures ss counted) in
    let longer = ap length c.in_ok-push.ensures.items in
    let one = length-append rows (row ∷ []) in
    record {
      count = omega (arith, longer, one, c.loop-before.invariant.count);
      told = λ i f e.
          rows_more (λ j x. IsFigures ss ls (j + 1) x) rows row c.loop-before.invariant.told
          (subst (λ n. IsFigures ss ls (n + 1) row) (sym c.loop-before.invariant.count) told)
          i f (ap (λ l. slice_get l i) (sym c.in_ok-push.ensures.items) ∙ e);
    }
