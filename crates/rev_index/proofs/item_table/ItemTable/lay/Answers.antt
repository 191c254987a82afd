use Rattle.std.proofs.Common.{◌∙◌, ap, set, Some, map}
use Rattle.std.proofs.lemmas.List.{map-set}
use Rattle.rev_links.specs.Grids.{cells_of}
use Rattle.rev_index.proofs.item_table.ItemTable.lay.Goals as goal

pub returns : goal.returns
returns g c =
    ap (λ n. map (cells_of (λ v. v.items)) (set c.self.inside.pages.items n (Some c.args.items))) c.from.ensures
    ∙ (map-set (cells_of (λ v. v.items)) c.self.inside.pages.items c.args.page (Some c.args.items) ∙ ap (λ k. set k c.args.page c.args.items.items) c.self.view_is)
