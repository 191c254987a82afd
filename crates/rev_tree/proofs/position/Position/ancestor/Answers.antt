use Rattle.std.proofs.Common.{◌≤◌, ◌+◌, length, arith, ap, ◌∙◌, add-one, take, refl, subst}
use Rattle.rev_tree.specs.declared.junction.Junction.{Junction}
use Rattle.rev_tree.proofs.Trails.{Position, cut_first, cut_stop, cut_next, cut_end}
use Rattle.rev_tree.proofs.position.Position.ancestor.Goals as goal

abbrev none : Junction
none = record { taken = 0; fork = 0 }

pub each-init : goal.each-init
each-init g c = (omega arith, cut_first _ c.as_slice-way.result.now c.args.depth c.as_slice-way.ensures.value)

pub returns-then-left-taken-clause-cut : goal.returns-then-left-taken-clause-cut
returns-then-left-taken-clause-cut g c =
    c.each.invariant.1 ∙ cut_stop c.as_slice-way.result.now c.each.level c.each.left _ none c.each-test.true refl c.if-left-taken.true
    ∙ ap (λ z. let y : Position = (take c.each.level z, c.each.left) in y) c.as_slice-way.ensures.value

pub returns-then-left-taken-clause-within : goal.returns-then-left-taken-clause-within
returns-then-left-taken-clause-within g c = subst (λ z. c.each.level ≤ length z) c.as_slice-way.ensures.value c.each.invariant.0

pub each-preserved : goal.each-preserved
each-preserved g c =
    (omega (arith, c.each-test.true), c.each.invariant.1 ∙ cut_next c.as_slice-way.result.now c.each.level (c.each.level + 1) c.each.left _ none (add-one c.each.level) c.each-test.true refl c.if-left-taken.false)

pub returns-clause-cut : goal.returns-clause-cut
returns-clause-cut g c =
    c.each.invariant.1 ∙ cut_end c.as_slice-way.result.now c.each.level c.each.left (omega (arith, c.each-test.false))
    ∙ ap (λ z. let y : Position = (take c.each.level z, c.each.left) in y) c.as_slice-way.ensures.value

pub returns-clause-within : goal.returns-clause-within
returns-clause-within g c = subst (λ z. c.each.level ≤ length z) c.as_slice-way.ensures.value c.each.invariant.0
