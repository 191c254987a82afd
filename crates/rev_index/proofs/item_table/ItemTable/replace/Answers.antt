use Rattle.std.proofs.Common.{arith, refl}
use Rattle.rev_links.proofs.Grids.{within_at, read_at, written_at}
use Rattle.rev_index.proofs.item_table.ItemTable.replace.Goals as goal

pub index_mut-requires-in-Some : goal.index_mut-requires-in-Some
index_mut-requires-in-Some g c =
    let l = within_at c.self.inside.pages.items (λ v. v.items) c.args.self.now c.self.view_is c.args.chunk.page c.args.chunk.slot c.from.result c.from-in-Some.result c.from.ensures c.from-in-Some.ensures c.requires _ c.index_mut.ensures.value c.in-Some.items c.in-Some.is in
    omega (arith, l, c.in-Some.items.ok.0)

pub returns-clause-before : goal.returns-clause-before
returns-clause-before g c =
    rw c.replace.ensures.value (read_at c.self.inside.pages.items (λ v. v.items) c.args.self.now c.self.view_is c.args.chunk.page c.args.chunk.slot c.from.result c.from-in-Some.result c.from.ensures c.from-in-Some.ensures c.requires _ c.index_mut.ensures.value c.in-Some.items c.in-Some.is _ c.index_mut-in-Some.ensures.value)

pub returns-clause-after : goal.returns-clause-after
returns-clause-after g c =
    rw c.replace.ensures.after (written_at c.self.inside.pages.items (λ v. v.items) c.args.self.now c.self.view_is c.args.chunk.page c.args.chunk.slot c.from.result c.from-in-Some.result c.from.ensures c.from-in-Some.ensures c.requires _ c.index_mut.ensures.value c.in-Some.items c.in-Some.is _ c.args.item refl)
