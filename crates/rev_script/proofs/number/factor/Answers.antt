use Rattle.std.proofs.Common.{◌≡◌, ◌+◌, ◌*◌, true, refl, sym, ◌∙◌, arith}
use Rattle.rev_script.specs.Number.{value, until, is_factor, thousandths}
use Rattle.rev_script.proofs.Places.{number-some, number-none, is_factor-whole, factor-bad, factor-zero, factor-over, factor-ok}
use Rattle.rev_script.proofs.number.factor.Goals as goal
use Rattle.rev_script.proofs.number.factor.Goals.{then-sum-eq0-via-then-sum-eq0, then-sum-eq0-via-else-sum-eq0+then-sum-gt1000000}

pub returns-then-not-is_factor : goal.returns-then-not-is_factor
returns-then-not-is_factor c = factor-bad c.args.w.now (sym c.is_factor.ensures ∙ c.if-not-is_factor.true)

pub returns-in_default : goal.returns-in_default
returns-in_default c =
    let f : is_factor c.args.w.now ≡ true = sym c.is_factor.ensures ∙ c.if-not-is_factor.false in
    let n = number-none 1000 (until 46 c.args.w.now) (is_factor-whole c.args.w.now f) (rw c.place_of-p.ensures.before (sym c.number.ensures.value ∙ c.in_default.is)) in
    factor-over c.args.w.now (omega (arith, n))

pub returns-then-sum-eq0 : goal.returns-then-sum-eq0
returns-then-sum-eq0 c =
    let v : c.in-Some.whole ≡ value (until 46 c.args.w.now) = number-some 1000 (until 46 c.args.w.now) c.in-Some.whole (rw c.place_of-p.ensures.before (sym c.number.ensures.value ∙ c.in-Some.is)) in
    let p = c.behind_point-part.ensures in
    let t : c.in-Some.whole * 1000 + c.digit.result * 100 + c.digit-2.result * 10 + c.digit-3.result ≡ thousandths c.args.w.now =
    rw (v, c.digit.ensures.value, c.digit-2.ensures.value, c.digit-3.ensures.value, p) refl in
    elim c.then-sum-eq0.branch [
      | then-sum-eq0-via-then-sum-eq0 w ↦ factor-zero c.args.w.now (sym t ∙ w.if-sum-eq0.true)
      | then-sum-eq0-via-else-sum-eq0+then-sum-gt1000000 w ↦ factor-over c.args.w.now (omega (arith, t, w.if-sum-gt1000000.true))
    ]

pub returns : goal.returns
returns c =
    let f : is_factor c.args.w.now ≡ true = sym c.is_factor.ensures ∙ c.if-not-is_factor.false in
    let v : c.in-Some.whole ≡ value (until 46 c.args.w.now) = number-some 1000 (until 46 c.args.w.now) c.in-Some.whole (rw c.place_of-p.ensures.before (sym c.number.ensures.value ∙ c.in-Some.is)) in
    let p = c.behind_point-part.ensures in
    let t : c.in-Some.whole * 1000 + c.digit.result * 100 + c.digit-2.result * 10 + c.digit-3.result ≡ thousandths c.args.w.now =
    rw (v, c.digit.ensures.value, c.digit-2.ensures.value, c.digit-3.ensures.value, p) refl in
    factor-ok c.args.w.now _ f t (omega (arith, c.if-sum-eq0.false)) c.if-sum-gt1000000.false
