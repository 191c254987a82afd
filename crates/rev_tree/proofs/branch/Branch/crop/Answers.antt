use Rattle.std.proofs.Common.{ap, ◌∙◌, map}
use Rattle.rev_tree.specs.Tree.{PlainBranch, forks_of}
use Rattle.rev_tree.specs.Places.{with_place}
use Rattle.rev_tree.specs.Prunes.{cropped}
use Rattle.rev_tree.proofs.Trims.{cropped_is}
use Rattle.rev_tree.proofs.branch.Branch.crop.Goals as goal

pub returns : goal.returns
returns g c =
    let i = c.self.inside in
    let f = forks_of (map (λ f. with_place f.from f.branch.value) c.trim_forks.new.forks.items) in
    ap (λ z. let b : PlainBranch = record { from = 0; run = z; forks = f } in b) c.truncate.ensures
    ∙ cropped_is (λ f. with_place f.from f.branch.value) c.args.at 0 i.run i.forks.items c.trim_forks.new.forks.items c.trim_forks.ensures.items
    ∙ ap (λ z. cropped c.args.at z) c.self.view_is
