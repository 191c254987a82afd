use Rattle.std.proofs.Common.{take, ◌∙◌, ap, arith, add-one}
use Rattle.rev_script.specs.Number.{has}
use Rattle.rev_script.proofs.Places.{found_at, absent_at, has_more}
use Rattle.rev_script.proofs.number.place_of.Goals as goal

pub returns-then-w-i-clause-has : goal.returns-then-w-i-clause-has
returns-then-w-i-clause-has c = (found_at c.args.b c.args.w.now c.bytes.i c.bytes.invariant.1 c.bytes-test.true c.if-w-i.true).0

pub returns-then-w-i-clause-before : goal.returns-then-w-i-clause-before
returns-then-w-i-clause-before c = (found_at c.args.b c.args.w.now c.bytes.i c.bytes.invariant.1 c.bytes-test.true c.if-w-i.true).1

pub returns-then-w-i-clause-after : goal.returns-then-w-i-clause-after
returns-then-w-i-clause-after c = (found_at c.args.b c.args.w.now c.bytes.i c.bytes.invariant.1 c.bytes-test.true c.if-w-i.true).2

pub bytes-preserved : goal.bytes-preserved
bytes-preserved c = (
  omega (arith, c.bytes-test.true),
  ap (λ n. has c.args.b (take n c.args.w.now)) (add-one c.bytes.i) ∙ has_more c.args.b c.args.w.now c.bytes.i c.bytes.invariant.1 c.bytes-test.true c.if-w-i.false,
)

pub returns-clause-before : goal.returns-clause-before
returns-clause-before c = (absent_at c.args.b c.args.w.now c.bytes.i c.bytes.invariant.1 (omega (arith, c.bytes-test.false))).1

pub returns-clause-after : goal.returns-clause-after
returns-clause-after c = (absent_at c.args.b c.args.w.now c.bytes.i c.bytes.invariant.1 (omega (arith, c.bytes-test.false))).2
