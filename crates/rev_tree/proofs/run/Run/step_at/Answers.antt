use Rattle.std.proofs.Common.{ap, sym, ◌∙◌}
use Rattle.rev_tree.proofs.Runs.{in_heads, node_seen}
use Rattle.rev_tree.proofs.run.Run.step_at.Goals as goal

pub index-head-requires : goal.index-head-requires
index-head-requires g c =
    let i = c.self.inside in
    rw i.heads.ok.0 (in_heads i.heads.items i.records _ c.args.at c.self.view_is c.self.invariant c.requires)

pub returns-clause-step : goal.returns-clause-step
returns-clause-step g c =
    let i = c.self.inside in
    ap (λ h. h.step) c.head.view_is
    ∙ sym (ap (λ n. n.step) (node_seen i.heads.items i.records c.args.self.now c.args.at c.index-head.result.now c.self.view_is c.self.invariant c.requires c.index-head.ensures))

pub returns-clause-outcome : goal.returns-clause-outcome
returns-clause-outcome g c =
    let i = c.self.inside in
    ap (λ h. h.outcome) c.head.view_is
    ∙ sym (ap (λ n. n.outcome) (node_seen i.heads.items i.records c.args.self.now c.args.at c.index-head.result.now c.self.view_is c.self.invariant c.requires c.index-head.ensures))
