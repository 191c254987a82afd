use Rattle.std.proofs.Common.{arith}
use Rattle.rev_links.proofs.Grids.{within_at, read_at}
use Rattle.rev_links.proofs.grid.Grid.get.Goals as goal

pub index-requires-in-Some : goal.index-requires-in-Some
index-requires-in-Some g c =
    let l = within_at c.self.inside.pages.items (λ v. v.items) c.args.self.now c.self.view_is c.args.page c.args.slot c.from.result c.from-in-Some.result c.from.ensures c.from-in-Some.ensures c.requires _ c.index.ensures c.in-Some.cells c.in-Some.is in
    omega (arith, l, c.in-Some.cells.ok.0)

pub returns : goal.returns
returns g c =
    read_at c.self.inside.pages.items (λ v. v.items) c.args.self.now c.self.view_is c.args.page c.args.slot c.from.result c.from-in-Some.result c.from.ensures c.from-in-Some.ensures c.requires _ c.index.ensures c.in-Some.cells c.in-Some.is _ c.index-in-Some.ensures
