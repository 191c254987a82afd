use Rattle.std.proofs.Common.{◌∙◌, ap, set, None, [], map}
use Rattle.std.proofs.lemmas.List.{map-set}
use Rattle.rev_links.specs.Grids.{cells_of}
use Rattle.rev_links.proofs.grid.Grid.lift.Goals as goal

pub returns-clause-after : goal.returns-clause-after
returns-clause-after g c =
    rw c.take.ensures.after
    (ap (λ n. map (cells_of (λ v. v.items)) (set c.self.inside.pages.items n None)) c.from.ensures
    ∙ (map-set (cells_of (λ v. v.items)) c.self.inside.pages.items c.args.page None ∙ ap (λ k. set k c.args.page []) c.self.view_is))
