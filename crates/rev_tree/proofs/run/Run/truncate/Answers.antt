use Rattle.std.proofs.Common.{take, ap, ◌∙◌}
use Rattle.rev_tree.specs.Runs.{nodes_of}
use Rattle.rev_tree.proofs.Runs.{take_nodes}
use Rattle.rev_tree.proofs.run.Run.truncate.Goals as goal

pub returns : goal.returns
returns g c =
    let i = c.self.inside in
    ap (λ z. nodes_of z c.truncate-2.new.self) c.truncate.ensures.items
    ∙ ap (λ z. nodes_of (take c.args.n i.heads.items) z) c.truncate-2.ensures
    ∙ take_nodes c.args.n i.heads.items i.records
    ∙ ap (take c.args.n) c.self.view_is
