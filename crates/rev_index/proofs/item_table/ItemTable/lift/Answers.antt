use Rattle.std.proofs.Common.{◌∙◌, sym, ap, set, None, [], map}
use Rattle.std.proofs.lemmas.List.{map-set}
use Rattle.rev_links.specs.Grids.{cells_of}
use Rattle.rev_index.proofs.ItemTables.{page_lifted}
use Rattle.rev_index.proofs.item_table.ItemTable.lift.Goals as goal

pub returns-clause-before : goal.returns-clause-before
returns-clause-before g c =
    page_lifted (λ v. v.items) c.self.inside.pages.items c.args.self.now c.self.view_is c.args.page c.from.result c.from.ensures c.requires c.index_mut.result.now c.index_mut.ensures.value c.in-Some.items (sym c.take.ensures.value ∙ c.in-Some.is)

pub returns-clause-after : goal.returns-clause-after
returns-clause-after g c =
    rw c.take.ensures.after
    (ap (λ n. map (cells_of (λ v. v.items)) (set c.self.inside.pages.items n None)) c.from.ensures
    ∙ (map-set (cells_of (λ v. v.items)) c.self.inside.pages.items c.args.page None ∙ ap (λ k. set k c.args.page []) c.self.view_is))
