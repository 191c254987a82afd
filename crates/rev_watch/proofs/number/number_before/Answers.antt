use Rattle.std.proofs.Common.{◌+◌, ◌-◌, ◌≡◌, Some, length, take, drop, arith, ◌∙◌, ap, sym, take_all, length-drop}
use Rattle.rev_script.proofs.Numbers.{digits-more, is_digit-yes, value-more}
use Rattle.rev_watch.proofs.NumberLemmas.{one_more, fits, no_sign_more, ends_at}
use Rattle.rev_watch.proofs.number.number_before.Goals as goal

pub returns-then-byte-lt48 : goal.returns-then-byte-lt48
returns-then-byte-lt48 c =
    let text = c.args.text.now in
    let i = c.loop-i.i in
    let behind = drop (i + 1) text in
    let all : take (length text - (i + 1)) behind ≡ behind = take_all (length text - (i + 1)) behind (omega (arith, length-drop (i + 1) text)) in
    let f = ends_at c.args.sign c.args.limit i text c.loop-i-test.true c.if-i-eq0.false c.if-byte-sign.false c.loop-i.invariant.4 c.loop-i.invariant.1 (omega (arith, c.loop-i.invariant.0, c.if-sum-limit.false)) in (
      f.0,
      f.1 ∙ sym (ap Some c.loop-i.invariant.0),
      all ∙ f.2,
      c.if-sum-limit.false,
    )

pub overflow_mul-sum : goal.overflow_mul-sum
overflow_mul-sum c = omega (arith, fits c.loop-i.sum c.loop-i.i c.loop-i.invariant.2 c.if-i-ge-SAFE_DIGITS.false)

pub overflow_add-sum : goal.overflow_add-sum
overflow_add-sum c =
    omega (arith, fits c.loop-i.sum c.loop-i.i c.loop-i.invariant.2 c.if-i-ge-SAFE_DIGITS.false, c.from.ensures, c.if-byte-lt48.false, c.if-byte-gt57.false)

pub loop-i-preserved : goal.loop-i-preserved
loop-i-preserved c =
    let text = c.args.text.now in
    let v = value-more text c.loop-i.i c.loop-i-test.true in (
      omega (arith, v, c.loop-i.invariant.0, c.from.ensures),
      digits-more text c.loop-i.i c.loop-i-test.true c.loop-i.invariant.1 (is_digit-yes _ c.if-byte-lt48.false c.if-byte-gt57.false),
      one_more c.loop-i.sum _ c.loop-i.i c.loop-i.invariant.2 (omega (arith, c.from.ensures, c.if-byte-lt48.false, c.if-byte-gt57.false)),
      omega (arith, c.if-i-ge-SAFE_DIGITS.false),
      no_sign_more c.args.sign c.loop-i.i text c.requires c.loop-i-test.true c.loop-i.invariant.4 c.if-byte-lt48.false,
    )
