use Rattle.std.proofs.Common.{◌<◌, ◌-◌, length, ◌+◌, ◌/◌, arith, sym, ◌∙◌}
use Rattle.rev_tree.proofs.Finds.{seek_low, seek_high, sought, middle_low, number_of}
use Rattle.rev_tree.proofs.branch.Branch.bisect.Goals as goal

pub narrow-init : goal.narrow-init
narrow-init g c = (c.requires.within, λ i h. absurd (omega (arith, h)), c.requires.over)

pub number-found-requires : goal.number-found-requires
number-found-requires g c = let m = middle_low c.narrow.low c.narrow.high c.narrow-test.true in let h = c.narrow.invariant.0 in omega (arith, m, h)

pub returns-then-found-number-clause-some : goal.returns-then-found-number-clause-some
returns-then-found-number-clause-some g c =
    let m = middle_low c.narrow.low c.narrow.high c.narrow-test.true in
    let h = c.narrow.invariant.0 in
    (omega (arith, m, h), sym c.number-found.ensures ∙ c.if-found-number.true)

pub narrow-preserved-then-found-number-2 : goal.narrow-preserved-then-found-number-2
narrow-preserved-then-found-number-2 g c =
    let m = middle_low c.narrow.low c.narrow.high c.narrow-test.true in
    let h = c.narrow.invariant.0 in
    let k : c.narrow.low + (c.narrow.high - c.narrow.low) / 2 < length c.args.self.now.run = omega (arith, m, h) in
    let e = c.number-found.ensures in
    let t = c.if-found-number-2.true in
    let l : number_of c.args.self.now.run (c.narrow.low + (c.narrow.high - c.narrow.low) / 2) < c.args.number = omega (arith, e, t) in
    (h, seek_low c.args.self.now.run _ c.args.number c.requires.rises k l, c.narrow.invariant.2)

pub narrow-preserved : goal.narrow-preserved
narrow-preserved g c =
    let m = middle_low c.narrow.low c.narrow.high c.narrow-test.true in
    let h = c.narrow.invariant.0 in
    let e = c.number-found.ensures in
    let t = c.if-found-number-2.false in
    let u = c.if-found-number.false in
    let l : c.args.number < number_of c.args.self.now.run (c.narrow.low + (c.narrow.high - c.narrow.low) / 2) = omega (arith, e, t, u) in
    (omega (arith, m, h), c.narrow.invariant.1, seek_high c.args.self.now.run _ c.args.number c.requires.rises l)

pub returns-clause-none : goal.returns-clause-none
returns-clause-none g c = let t = c.narrow-test.false in sought c.args.self.now.run c.args.number c.narrow.low c.narrow.high (omega (arith, t)) c.narrow.invariant.1 c.narrow.invariant.2
