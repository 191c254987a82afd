use Rattle.std.proofs.Common.{◌≡◌, map}
use Rattle.rev_links.specs.Grids.{away, cells_of}
use Rattle.rev_index.proofs.item_table.ItemTable.open.Given as goal

abbrev pub invariant-loop : goal.invariant-loop
invariant-loop g l = map (cells_of (λ v. v.items)) l.table.items ≡ away l.counter
