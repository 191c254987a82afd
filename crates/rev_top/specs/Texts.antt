-- A table as text for people.
-- Rule of this project: a head line, and a line for each row. Names stand at the left of their column, and figures at the
-- right of theirs, behind a space at least. What is not known is a `-`.
use Rattle.std.specs.Prelude.{ℕ, ◌-◌, ◌==◌, Bool, min, max, if◌then◌else◌, List, [], ◌∷◌, ◌++◌, length, replicate, Option, Some, None, decimal, codes}
use Rattle.rev_pushers.specs.Joins.{joined, behind}
use Rattle.rev_pushers.specs.Pieces.{class_text}
use Rattle.rev_pushers.specs.Times.{tenths_text}
use Rattle.rev_top.specs.declared.figures.Figures.{Figures}
use Rattle.rev_top.specs.declared.rows.Name.{Name}
use Rattle.rev_top.specs.declared.rows.Name.TheVariants.{Prefix, Class, Others, Total}
use Rattle.rev_top.specs.declared.rows.Row.{Row}

-- ---- columns

-- so many spaces
abbrev pub spaces : ℕ → List ℕ
spaces n = replicate n 32

-- how many bytes a text lacks
abbrev pub lacking : ℕ → List ℕ → ℕ
lacking width text = width - length text

-- a text at the right of a column
abbrev pub cell : ℕ → List ℕ → List ℕ
cell width text = spaces (lacking width text) ++ text

-- ---- what stands in them

-- the name of a row
abbrev pub prefix_text : List ℕ → List ℕ
prefix_text p = if length p == 0 then codes "(no prefix)" else p

abbrev pub name_text : Name → List ℕ
name_text (Prefix p) = prefix_text p.now
name_text (Class c) = class_text c
name_text Others = codes "others"
name_text Total = codes "total"

-- a number, and how long what was evicted had lived
abbrev pub number_text : ℕ → List ℕ
number_text n = joined (codes " " ∷ decimal n ∷ [])

abbrev pub lived_text : Option ℕ → List ℕ
lived_text None = joined (codes " -" ∷ [])
lived_text (Some n) = joined (codes " " ∷ tenths_text n ∷ codes " s" ∷ [])

-- the cells of figures
abbrev pub figures_cells : Figures → List (List ℕ)
figures_cells f =
    cell 10 (number_text f.stores) ∷ cell 15 (number_text f.bytes) ∷ cell 10 (number_text f.hits) ∷ cell 10 (number_text f.misses)
    ∷ cell 10 (number_text f.evictions) ∷ cell 12 (number_text f.asked_again) ∷ []

-- ---- the table

-- a text with a name at the left of a column behind it
abbrev pub with_name : List ℕ → ℕ → List ℕ → List ℕ
with_name old width name = (old ++ name) ++ spaces (lacking width name)

-- with a row
abbrev pub with_row : List ℕ → ℕ → Row → List ℕ
with_row old width r = (behind (with_name old width (name_text r.name)) (figures_cells r.figures) ++ cell 10 (lived_text r.lived)) ++ joined (codes "\n" ∷ [])

-- with rows
abbrev pub with_rows : List ℕ → ℕ → List Row → List ℕ
with_rows old width [] = old
with_rows old width (r ∷ rs) = with_rows (with_row old width r) width rs

-- the width of the column of names: that of the longest, from 6 to 40
abbrev pub widened : ℕ → Name → ℕ
widened width name = max width (min (length (name_text name)) 40)

abbrev pub widest : ℕ → List Row → ℕ
widest width [] = width
widest width (r ∷ rs) = widest (widened width r.name) rs

-- what the columns are called
abbrev pub head_word : (by_class : Bool) → List ℕ
head_word by_class = if by_class then codes "class" else codes "prefix"

abbrev pub head_text : List ℕ
head_text = joined (codes "    stores          bytes      hits    misses evictions asked again     lived\n" ∷ [])

-- with a table
abbrev pub with_table : List ℕ → List Row → (by_class : Bool) → List ℕ
with_table old rows by_class = with_rows (with_name old (widest 6 rows) (head_word by_class) ++ head_text) (widest 6 rows) rows
