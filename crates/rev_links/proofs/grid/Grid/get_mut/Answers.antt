use Rattle.std.proofs.Common.{arith, refl}
use Rattle.rev_links.proofs.Grids.{within_at, read_at, written_at}
use Rattle.rev_links.proofs.grid.Grid.get_mut.Goals as goal

pub index_mut-requires-2 : goal.index_mut-requires-2
index_mut-requires-2 g c =
    let cells = c.present-cells.result.now in
    let l = within_at c.self.inside.pages.items (λ v. v.items) c.args.self.now c.self.view_is c.args.page c.args.slot c.from.result c.from-2.result c.from.ensures c.from-2.ensures c.requires _ c.index_mut.ensures.value cells c.present-cells.ensures.value in
    omega (arith, l, cells.ok.0)

pub returns : goal.returns
returns g c =
    let cells = c.present-cells.result.now in (
      (
        refl,
        λ w. written_at c.self.inside.pages.items (λ v. v.items) c.args.self.now c.self.view_is c.args.page c.args.slot c.from.result c.from-2.result c.from.ensures c.from-2.ensures c.requires _ c.index_mut.ensures.value cells c.present-cells.ensures.value _ w refl,
      ),
      record { writes_back = tt; value = read_at c.self.inside.pages.items (λ v. v.items) c.args.self.now c.self.view_is c.args.page c.args.slot c.from.result c.from-2.result c.from.ensures c.from-2.ensures c.requires _ c.index_mut.ensures.value cells c.present-cells.ensures.value _ c.index_mut-2.ensures.value },
    )
