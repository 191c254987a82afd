use Rattle.std.proofs.Common.{arith}
use Rattle.rev_tree.proofs.Children.{pass_both, pass_one}
use Rattle.rev_tree.proofs.branch.pass.Goals as goal

pub returns-then-own-number-clause-err : goal.returns-then-own-number-clause-err
returns-then-own-number-clause-err c = λ ys. pass_both c.args.next c.in-Some.own c.args.number c.args.left ys c.in-Some.is c.if-own-number.true (omega (arith, c.if-left-eq0-2.false, c.if-left-eq1.false))

pub returns-else-left-eq0-3-clause-err : goal.returns-else-left-eq0-3-clause-err
returns-else-left-eq0-3-clause-err c = λ ys. pass_one c.args.next c.in-Some.own c.args.number c.args.left ys c.in-Some.is (λ h. let n = c.if-own-number.false in omega (arith, h, n)) (omega (arith, c.if-left-eq0-3.false))
