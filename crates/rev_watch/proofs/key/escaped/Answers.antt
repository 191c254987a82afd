use Rattle.std.proofs.Common.{◌≡◌, ◌+◌, ◌*◌, get_or, arith, rules}
use Rattle.std.proofs.lemmas.List.{take_rest}
use Rattle.std.specs.Char.{digit_value}
use Rattle.rev_watch.proofs.KeyLemmas.{no_digits, two_digits}
use Rattle.rev_watch.proofs.key.escaped.Goals as goal

pub returns-in_default : goal.returns-in_default
returns-in_default c = no_digits c.args.text.now (λ long high low. grind arith)

pub returns-in_err-high : goal.returns-in_err-high
returns-in_err-high c = rw c.from_residual.ensures (no_digits c.args.text.now (λ long high low. search rules))

pub returns-in_err-low : goal.returns-in_err-low
returns-in_err-low c = rw c.from_residual-in_err-low.ensures (no_digits c.args.text.now (λ long high low. search rules))

pub returns : goal.returns
returns c =
    let text = c.args.text.now in
    let value : c.in_ok-high.high * 16 + c.in_ok-low.low ≡ 16 * digit_value (get_or text 0 0) + digit_value (get_or text 1 0) = grind arith in
    rw (take_rest text 2) (two_digits text _ (omega arith) (search rules) (search rules) value)
