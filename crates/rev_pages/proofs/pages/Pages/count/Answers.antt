use Rattle.std.proofs.Common.{arith}
use Rattle.rev_links.proofs.Grids.{size_of_page}
use Rattle.rev_pages.proofs.pages.Pages.count.Goals as goal

pub overflow_cast-result : goal.overflow_cast-result
overflow_cast-result g c =
    let b = c.self.invariant.linked.slots_below c.args.page in
    let e = size_of_page c.self.inside.table.links c.args.page in
    let r = c.count.ensures in
    omega (arith, b, e, r)
