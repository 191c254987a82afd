use Rattle.std.proofs.Common.{ap, sym, ◌∙◌}
use Rattle.rev_tree.proofs.Runs.{in_heads, node_seen}
use Rattle.rev_tree.proofs.run.Run.number.Goals as goal

pub index-head-requires : goal.index-head-requires
index-head-requires g c =
    let i = c.self.inside in
    rw i.heads.ok.0 (in_heads i.heads.items i.records _ c.args.at c.self.view_is c.self.invariant c.requires)

pub returns : goal.returns
returns g c =
    let i = c.self.inside in
    ap (λ h. h.number) c.head.view_is
    ∙ sym (ap (λ n. n.number) (node_seen i.heads.items i.records c.args.self.now c.args.at c.index-head.result.now c.self.view_is c.self.invariant c.requires c.index-head.ensures))
