use Rattle.std.proofs.Common.{◌≡◌, ◌-◌, suc, arith, ◌∙◌, refl}
use Rattle.rev_tree.proofs.Positions.{number_root, number_read}
use Rattle.rev_tree.proofs.Spots.{path_way, path_within}
use Rattle.rev_tree.proofs.position.Position.number_at.Goals as goal

pub reach-requires : goal.reach-requires
reach-requires g c = path_way _ _ _ c.requires.path

pub number-requires : goal.number-requires
number-requires g c = let l = path_within c.args.self.now.base c.args.way.now c.args.here c.requires.path in rw c.reach.ensures (omega (arith, l, c.if-here-eq0.false))

pub returns-then-here-eq0 : goal.returns-then-here-eq0
returns-then-here-eq0 g c = number_root _ _ _ c.requires.proper c.if-here-eq0.true

pub returns : goal.returns
returns g c =
    let e : c.args.here ≡ suc (c.args.here - 1) = omega (arith, c.if-here-eq0.false) in
    c.number.ensures ∙ rw c.reach.ensures (number_read c.args.self.now.base c.args.way.now c.args.way.now c.args.here (c.args.here - 1) e (path_within c.args.self.now.base c.args.way.now c.args.here c.requires.path) refl)
