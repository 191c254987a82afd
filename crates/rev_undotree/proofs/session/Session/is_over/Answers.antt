use Rattle.std.proofs.Common.{◌-◌, ◌<◌, ℕ, nat_lt, IsTrue, arith}
use Rattle.std.proofs.lemmas.Bool.Decides.{nat_tests}
use Rattle.rev_undotree.proofs.Lineage.{lineage_rises}
use Rattle.rev_undotree.proofs.session.Session.is_over.Goals as goal

less : (m n : ℕ) → IsTrue (nat_lt m n) → m < n
less m n t = grind (arith, nat_tests)

pub returns-in-Some : goal.returns-in-Some
returns-in-Some g c =
    let v = c.args.self.now in
    let h = c.in-Some.ensures.some in
    λ t e n l f.
    let o = less c.args.number c.in-Some.node.0 t in
    let r = lineage_rises v.rows h.falls v.current (c.args.depth - 1) (e - 1) c.in-Some.node.0 n h.numbered f (omega (arith, l)) in
    omega (arith, o, r)
