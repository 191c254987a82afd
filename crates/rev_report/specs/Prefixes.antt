-- What stands in the table by prefix.
-- Rule of this project: the numbers of a row are those of the prefix, and the last row has those of the whole trace.
use Rattle.std.specs.Prelude.{ℕ, Bool, ◌||◌, nat_lt, fold, List, [], ◌∷◌}
use Rattle.rev_figures.specs.Classes.{plus}
use Rattle.rev_figures.specs.Prefixes.{both}
use Rattle.rev_figures.specs.declared.prefixes.PrefixCounts.{PrefixCounts}
use Rattle.rev_figures.specs.declared.prefixes.PrefixRow.{PrefixRow}
use Rattle.rev_figures.specs.declared.tables.CauseCounts.{CauseCounts}

-- the numbers of a row, in the order in which they stand
abbrev pub cells_of : PrefixCounts → List ℕ
cells_of n = n.stores ∷ n.hits ∷ n.misses ∷ n.evicted ∷ n.left ∷ n.asked ∷ []

-- counts together with those of a row
abbrev pub with_row : {A : Type 0} → PrefixCounts → PrefixRow A → PrefixCounts
with_row n r = both n r.counts

-- counts together with those of rows
abbrev pub with_rows : {A : Type 0} → PrefixCounts → List (PrefixRow A) → PrefixCounts
with_rows n rs = fold with_row n rs

-- how many keys were evicted, by a set or the page mover
abbrev pub evicted_of : CauseCounts → ℕ
evicted_of left = plus left.evicted left.evicted_by_mover

-- how many left by another cause
abbrev pub left_of : CauseCounts → ℕ
left_of left =
    plus (plus (plus left.deleted left.dropped_by_failed_set) (plus left.reclaimed_by_hit left.reclaimed_by_pull))
    (plus left.reclaimed_by_crawler left.reclaimed_by_mover)

-- anything happened
abbrev pub has_any : PrefixCounts → Bool
has_any n = nat_lt 0 n.stores || (nat_lt 0 n.hits || (nat_lt 0 n.misses || (nat_lt 0 n.evicted || (nat_lt 0 n.left || nat_lt 0 n.asked))))
