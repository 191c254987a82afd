use Rattle.std.proofs.Common.{arith}
use Rattle.rev_tree.proofs.Children.{next_none, next_some}
use Rattle.rev_tree.proofs.branch.Branch.next_at.Goals as goal

pub returns-then-here-len : goal.returns-then-here-len
returns-then-here-len g c = let e = c.len.ensures.value in let t = c.if-here-len.true in next_none c.args.self.now.run c.args.here (omega (arith, e, t))

pub returns : goal.returns
returns g c = let e = c.len.ensures.value in let t = c.if-here-len.false in next_some c.args.self.now.run c.args.here c.number.result (omega (arith, e, t)) c.number.ensures
