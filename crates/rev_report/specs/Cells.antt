-- What stands in the table by class, and the numbers that are drawn.
-- Rule of this project: each number of a row is a figure of the class, as it was counted.
use Rattle.std.specs.Prelude.{ℕ, List, [], ◌∷◌, Option, None, Some}
use Rattle.rev_figures.specs.declared.tables.CauseCounts.{CauseCounts}
use Rattle.rev_markup.specs.Numbers.{grouped}
use Rattle.rev_report.specs.declared.figures.ClassRow.{ClassRow}

-- how many keys left by each cause, in the order in which causes are told
abbrev pub causes_of : CauseCounts → List ℕ
causes_of left =
    left.evicted
    ∷ left.evicted_by_mover
    ∷ left.deleted
    ∷ left.dropped_by_failed_set
    ∷ left.reclaimed_by_hit
    ∷ left.reclaimed_by_pull
    ∷ left.reclaimed_by_crawler
    ∷ left.reclaimed_by_mover
    ∷ []

-- the numbers of a row, none where there is nothing to tell
abbrev pub cells_of : ClassRow → List (Option ℕ)
cells_of row =
    Some row.chunk_size
    ∷ Some row.pages
    ∷ Some row.figures.stores
    ∷ Some row.figures.hits
    ∷ Some row.figures.misses
    ∷ Some row.figures.left.evicted
    ∷ Some row.figures.left.evicted_by_mover
    ∷ Some row.figures.left.deleted
    ∷ Some row.figures.left.dropped_by_failed_set
    ∷ Some row.figures.left.reclaimed_by_hit
    ∷ Some row.figures.left.reclaimed_by_pull
    ∷ Some row.figures.left.reclaimed_by_crawler
    ∷ Some row.figures.left.reclaimed_by_mover
    ∷ Some row.figures.unfetched
    ∷ row.figures.idle
    ∷ Some row.figures.asked
    ∷ row.figures.asked_after
    ∷ []

-- what is shown of a number: its digits in groups, or a dash (U+2013)
abbrev pub shown : Option ℕ → List ℕ
shown None = 226 ∷ 128 ∷ 147 ∷ []
shown (Some n) = grouped n
