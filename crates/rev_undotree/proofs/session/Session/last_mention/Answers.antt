use Rattle.std.proofs.Common.{◌-◌, sym, subst, ⊎_elim, arith}
use Rattle.rev_tree.specs.Mentions.{Holds}
use Rattle.rev_tree.specs.Mentioned.{Mentioned}
use Rattle.rev_undotree.proofs.Lineage.{lineage_rises}
use Rattle.rev_undotree.proofs.session.Session.last_mention.Goals as goal

pub returns-in-Some-clause-still : goal.returns-in-Some-clause-still
returns-in-Some-clause-still g c =
    let v = c.args.self.now in
    let h = c.in-Some.ensures.some in
    let all : Mentioned v.root v.rows c.self.inside.mentions = subst (λ z. Mentioned z.root z.rows c.self.inside.mentions) c.self.view_is c.self.invariant.mentioned in
    λ d n r a b e f.
    ⊎_elim (λ s. s)
    (λ m.
    let l = lineage_rises v.rows h.falls v.current (d - 1) (c.args.depth - 1) n c.in-Some.node.0 e h.numbered (omega (arith, b)) in
    let u = c.latest-latest.ensures.latest n (subst (λ z. Holds c.self.inside.mentions z n) (sym c.hash.ensures) m) l in
    let w = c.depth_of.ensures.above d n a b e in
    absurd (omega (arith, u, w)))
    (all n r c.args.key.now f)
