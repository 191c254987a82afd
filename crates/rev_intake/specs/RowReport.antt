-- What an import of traces tells of itself.
-- Rule of this project: a line for each matter, with each count in front of what it counts.
use Rattle.std.specs.Prelude.{ℕ, List, [], ◌∷◌, codes}
use Rattle.rev_import.specs.declared.figures.Figures.{Figures}
use Rattle.rev_intake.specs.Report.{behind, part}
use Rattle.rev_intake.specs.declared.row_counts.RowCounts.{RowCounts}

-- how many rows that are asked for were read, of each operation: those that store nothing, and those that store
abbrev pub client_parts : RowCounts → List (List ℕ)
client_parts counts =
    part (codes "read: ") counts.asked (codes " rows")
    ∷ part (codes ", ") counts.get (codes " get")
    ∷ part (codes ", ") counts.gets (codes " gets")
    ∷ part (codes ", ") counts.delete (codes " delete")
    ∷ part (codes ", ") counts.increment (codes " incr")
    ∷ part (codes ", ") counts.decrement (codes " decr")
    ∷ []

abbrev pub storage_parts : RowCounts → List (List ℕ)
storage_parts counts =
    part (codes ", ") counts.set (codes " set")
    ∷ part (codes ", ") counts.add (codes " add")
    ∷ part (codes ", ") counts.replace (codes " replace")
    ∷ part (codes ", ") counts.append (codes " append")
    ∷ part (codes ", ") counts.prepend (codes " prepend")
    ∷ part (codes ", ") counts.cas (codes " cas written as set\n")
    ∷ []

-- what else became of rows, and what was written
abbrev pub other_parts : RowCounts → Figures → List (List ℕ)
other_parts counts figures =
    part (codes "late: ") counts.late (codes " rows with an earlier second than one before them\n")
    ∷ part (codes "unknown: ") counts.unknown (codes " rows of other operations\n")
    ∷ part (codes "sample: ") counts.left_out (codes " rows of other keys left out\n")
    ∷ part (codes "too large: ") figures.too_large (codes " values for a page\n")
    ∷ part (codes "wrote: ") figures.lines (codes " steps\n")
    ∷ []

-- all of it
abbrev pub row_report_text : List ℕ → RowCounts → Figures → List ℕ
row_report_text old counts figures = behind (behind (behind old (client_parts counts)) (storage_parts counts)) (other_parts counts figures)

-- that the pages of a sample would be too small
abbrev pub thin_parts : ℕ → List (List ℕ)
thin_parts one_of = part (codes "sample: pages of 1/") one_of (codes " would be under 256 bytes: --page-size 256 is used\n") ∷ []
