use Rattle.std.proofs.Common.{arith, ◌∙◌, ap, sym, refl, inl, inr, Some}
use Rattle.std.proofs.lemmas.Bool.{eqb-false}
use Rattle.rev_script.proofs.Numbers.{number-bad, number-over, number-ok, digits-more, is_digit-no, is_digit-yes, value-more}
use Rattle.rev_watch.proofs.NumberLemmas.{one_more, fits}
use Rattle.rev_watch.proofs.number.number.Goals as goal
use Rattle.rev_watch.proofs.number.number.Goals.{then-b-lt48-via-then-b-lt48, then-b-lt48-via-else-b-lt48+then-b-gt57}

pub returns-then-b-lt48-clause-value : goal.returns-then-b-lt48-clause-value
returns-then-b-lt48-clause-value c =
    number-bad c.args.limit c.args.word.now c.loop-b.b-index c.loop-b-test.true
    (elim c.then-b-lt48.branch [
      | then-b-lt48-via-then-b-lt48 w ↦ is_digit-no _ (inl w.if-b-lt48.true)
      | then-b-lt48-via-else-b-lt48+then-b-gt57 w ↦ is_digit-no _ (inr w.if-b-gt57.true)
    ])

pub loop-b-init : goal.loop-b-init
loop-b-init c = (
  refl,
  refl,
  omega arith,
  omega (arith, eqb-false _ _ (sym c.is_empty.ensures ∙ c.if-is_empty.false)),
  c.if-word-gt-SAFE_DIGITS.false,
)

pub loop-b-preserved : goal.loop-b-preserved
loop-b-preserved c =
    let v = value-more c.args.word.now c.loop-b.b-index c.loop-b-test.true in (
      omega (arith, v, c.loop-b.invariant.0),
      digits-more c.args.word.now c.loop-b.b-index c.loop-b-test.true c.loop-b.invariant.1 (is_digit-yes _ c.if-b-lt48.false c.if-b-gt57.false),
      one_more c.loop-b.sum _ c.loop-b.b-index c.loop-b.invariant.2 (omega (arith, c.if-b-lt48.false, c.if-b-gt57.false)),
      c.loop-b.invariant.3,
      c.loop-b.invariant.4,
    )

pub returns-then-sum-limit-clause-value : goal.returns-then-sum-limit-clause-value
returns-then-sum-limit-clause-value c =
    number-over c.args.limit c.args.word.now c.loop-b.b-index (omega (arith, c.loop-b.invariant.0, c.if-sum-limit.true))

pub returns-else-sum-limit-clause-value : goal.returns-else-sum-limit-clause-value
returns-else-sum-limit-clause-value c =
    ap Some c.loop-b.invariant.0 ∙ number-ok c.args.limit c.args.word.now c.loop-b.b-index (omega (arith, c.loop-b-test.false)) c.loop-b.invariant.3 c.loop-b.invariant.1 (omega (arith, c.loop-b.invariant.0, c.if-sum-limit.false))

pub overflow_mul-sum : goal.overflow_mul-sum
overflow_mul-sum c = omega (arith, fits c.loop-b.sum c.loop-b.b-index c.loop-b.invariant.2 (omega (arith, c.loop-b-test.true, c.loop-b.invariant.4)))

pub overflow_add-sum : goal.overflow_add-sum
overflow_add-sum c =
    omega (arith, fits c.loop-b.sum c.loop-b.b-index c.loop-b.invariant.2 (omega (arith, c.loop-b-test.true, c.loop-b.invariant.4)), c.from.ensures, c.if-b-lt48.false, c.if-b-gt57.false)
