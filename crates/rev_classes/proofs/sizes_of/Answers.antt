use Rattle.std.proofs.Common.{◌≡◌, ◌+◌, ◌*◌, ◌/◌, ◌∙◌, subst, sym, arith}
use Rattle.rev_classes.proofs.Laws.{has_factor}
use Rattle.rev_classes.proofs.Filling.{IsFilled, none_filled, filled-ends, filled-push, filled-many, filled-few}
use Rattle.rev_classes.proofs.sizes_of.Goals as goal

pub loop-class-init : goal.loop-class-init
loop-class-init c = subst (λ xs. IsFilled c.args.page_size c.args.num c.args.den xs 96 0) (sym c.new-sizes.ensures) (none_filled _ _ _)

pub returns-then-unrounded-num-clause-some : goal.returns-then-unrounded-num-clause-some
returns-then-unrounded-num-clause-some c = c.push.ensures.items ∙ filled-ends _ _ _ _ _ _ c.loop-class.invariant c.if-unrounded-num.true

pub returns-then-unrounded-num-clause-few : goal.returns-then-unrounded-num-clause-few
returns-then-unrounded-num-clause-few c = filled-few _ _ _ _ _ c.loop-class.invariant.count c.loop-class-test.true (filled-ends _ _ _ _ _ _ c.loop-class.invariant c.if-unrounded-num.true)

pub loop-class-preserved : goal.loop-class-preserved
loop-class-preserved c =
    subst (λ xs. IsFilled c.args.page_size c.args.num c.args.den xs (c.next_multiple_of-size.result * c.args.num / c.args.den) (c.loop-class._class + 1)) (sym c.push-in-loop-class.ensures.items)
    (filled-push _ _ _ _ _ _ _ (has_factor _ _ _ c.requires.page c.requires.factor) c.loop-class.invariant c.loop-class-test.true c.if-unrounded-num.false c.next_multiple_of-size.ensures.value)

pub returns-clause-none : goal.returns-clause-none
returns-clause-none c =
    let e : c.loop-class._class ≡ 62 = omega arith in
    filled-many _ _ _ c.loop-class.sizes.items c.loop-class.unrounded (subst (λ i. IsFilled c.args.page_size c.args.num c.args.den c.loop-class.sizes.items c.loop-class.unrounded i) e c.loop-class.invariant)
