use Rattle.std.proofs.Common.{◌≡◌, ◌-◌, suc, arith, ◌∙◌}
use Rattle.rev_tree.proofs.Positions.{number_root, number_read}
use Rattle.rev_tree.proofs.position.Position.number.Goals as goal

pub returns-then-self-eq0 : goal.returns-then-self-eq0
returns-then-self-eq0 g c = number_root _ _ _ c.requires.proper c.if-self-eq0.true

pub returns : goal.returns
returns g c =
    let e : c.args.self.now.here ≡ suc (c.args.self.now.here - 1) = omega (arith, c.if-self-eq0.false) in
    c.number.ensures ∙ rw c.reach.ensures (number_read c.args.self.now.base c.args.self.now.way.items c.as_slice.result.now c.args.self.now.here (c.args.self.now.here - 1) e c.requires.within c.as_slice.ensures.value)
