use Rattle.std.proofs.Common.{◌+◌, ◌∙◌, Some, get_or, arith, ap, rules}
use Rattle.rev_commands.proofs.Digits.{number-bad, number-wide, number-is, digits-more, digits_all-more, digit-yes, digit-no}
use Rattle.rev_commands.proofs.number.number_of.Goals as goal

pub returns-then-not-is_ascii_digit : goal.returns-then-not-is_ascii_digit
returns-then-not-is_ascii_digit c = number-bad c.args.digits.now c.loop-digit.digit-index c.loop-digit-test.true (digit-no (get_or c.args.digits.now c.loop-digit.digit-index 0) _ c.is_ascii_digit.ensures.value c.if-not-is_ascii_digit.true)

pub returns-in_err-checked_mul : goal.returns-in_err-checked_mul
returns-in_err-checked_mul c =
    let v = digits-more c.args.digits.now c.loop-digit.digit-index c.loop-digit-test.true in
    c.from_residual.ensures ∙ number-wide c.args.digits.now (c.loop-digit.digit-index + 1) (omega (arith, v, c.in_err-checked_mul.ensures, c.loop-digit.invariant.0))

pub returns-in_err-number : goal.returns-in_err-number
returns-in_err-number c =
    let v = digits-more c.args.digits.now c.loop-digit.digit-index c.loop-digit-test.true in
    c.from_residual-in_err-number.ensures ∙ number-wide c.args.digits.now (c.loop-digit.digit-index + 1) (omega (arith, v, c.in_err-number.ensures, c.in_ok-checked_mul.ensures, c.from.ensures, c.loop-digit.invariant.0))

pub loop-digit-preserved : goal.loop-digit-preserved
loop-digit-preserved c =
    let v = digits-more c.args.digits.now c.loop-digit.digit-index c.loop-digit-test.true in
    (omega (arith, v, c.in_ok-number.ensures, c.in_ok-checked_mul.ensures, c.from.ensures, c.loop-digit.invariant.0), digits_all-more c.args.digits.now c.loop-digit.digit-index c.loop-digit-test.true c.loop-digit.invariant.1 (digit-yes (get_or c.args.digits.now c.loop-digit.digit-index 0) _ c.is_ascii_digit.ensures.value c.if-not-is_ascii_digit.false), c.loop-digit.invariant.2, c.loop-digit.invariant.3, omega (arith, c.in_ok-number.ensures))

pub returns : goal.returns
returns c =
    ap Some c.loop-digit.invariant.0 ∙ number-is c.args.digits.now c.loop-digit.digit-index (omega (arith, c.loop-digit-test.false)) c.loop-digit.invariant.2 c.loop-digit.invariant.3 c.loop-digit.invariant.1 (omega (arith, c.loop-digit.invariant.0, c.loop-digit.invariant.4))

pub loop-digit-init : goal.loop-digit-init
loop-digit-init c = search rules
