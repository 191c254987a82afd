-- What becomes of values of which one is lent.
-- Rule of this project: a cell is lent, and not read and written back.
use Rattle.std.specs.Prelude.{ℕ, List, slice_set}
use Rattle.std.specs.Borrow.{Lends, MutBor, Fml, RattleType}
use Rattle.std.specs.declared.alloc.Allocator.{Ghosts}
use Rattle.rev_links.specs.Grids.{with_cell}
use Rattle.rev_links.specs.contracts.cells.Cells.{the_row as cells_row}
use Rattle.rev_links.specs.contracts.grid.Grid.{the_row as grid_row}
use Rattle.rev_links.specs.contracts.counted.CountedGrid.{the_row as counted_row}

-- once the borrow ends, the cell has the last value written through it
abbrev pub LendsCell : (T A : RattleType) → Ghosts A.Denot → MutBor (List (List T.Denot)) → ℕ → ℕ → MutBor T.Denot → Fml
LendsCell T A alloc g page slot r = Lends (grid_row T A alloc) T g r (with_cell g.now page slot)

-- the same where each read and write is counted
abbrev pub LendsCounted : (T A : RattleType) → Ghosts A.Denot → MutBor (List (List T.Denot)) → ℕ → ℕ → MutBor T.Denot → Fml
LendsCounted T A alloc g page slot r = Lends (counted_row T A alloc) T g r (with_cell g.now page slot)

-- the same of a value by number
abbrev pub LendsValue : (T A : RattleType) → Ghosts A.Denot → MutBor (List T.Denot) → ℕ → MutBor T.Denot → Fml
LendsValue T A alloc c at r = Lends (cells_row T A alloc) T c r (slice_set c.now at)
