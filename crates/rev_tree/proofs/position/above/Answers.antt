use Rattle.std.proofs.Common.{◌≡◌, ◌-◌, suc, arith, subst}
use Rattle.rev_tree.specs.Positions.{Proper}
use Rattle.rev_tree.proofs.Positions.{below_leave, below_stay, below_along, Proper-at, Proper-more}
use Rattle.rev_tree.proofs.position.above.Goals as goal

pub returns-then-at-gt1-clause-below : goal.returns-then-at-gt1-clause-below
returns-then-at-gt1-clause-below c = let e : c.args.at ≡ suc (c.args.at - 1) = omega (arith, c.if-at-gt1.true) in below_along _ _ _ e

pub returns-then-at-gt1-clause-proper : goal.returns-then-at-gt1-clause-proper
returns-then-at-gt1-clause-proper c = Proper-at _ c.args.at _ (omega (arith, c.if-at-gt1.true)) c.requires.proper

pub returns-in-Some-clause-below : goal.returns-in-Some-clause-below
returns-in-Some-clause-below c =
    let e : c.args.at ≡ suc (c.args.at - 1) = omega (arith, c.requires.inside) in
    let z : c.args.at - 1 ≡ 0 = omega (arith, c.if-at-gt1.false) in
    below_leave _ _ _ _ (c.args.at - 1) e z c.in-Some.ensures.items

pub returns-in-Some-clause-proper : goal.returns-in-Some-clause-proper
returns-in-Some-clause-proper c = Proper-more c.pop.new.self.items c.in-Some.junction c.args.at (subst (λ z. Proper z c.args.at) c.in-Some.ensures.items c.requires.proper)

pub returns-in-None-clause-below : goal.returns-in-None-clause-below
returns-in-None-clause-below c =
    let e : c.args.at ≡ suc 0 = omega (arith, c.requires.inside, c.if-at-gt1.false) in
    below_stay _ _ _ 0 e c.in-None.ensures.items
