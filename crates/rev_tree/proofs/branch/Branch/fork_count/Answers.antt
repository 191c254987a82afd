use Rattle.std.proofs.Common.{ap, sym, ◌∙◌}
use Rattle.rev_tree.specs.Tree.{count}
use Rattle.rev_tree.specs.Places.{with_place}
use Rattle.rev_tree.proofs.Junctions.{count-map}
use Rattle.rev_tree.proofs.branch.Branch.fork_count.Goals as goal

pub returns : goal.returns
returns g c = c.len.ensures ∙ c.self.inside.forks.ok.0 ∙ sym (count-map (λ f. with_place f.from f.branch.value) c.self.inside.forks.items) ∙ ap (λ z. count z.forks) c.self.view_is
