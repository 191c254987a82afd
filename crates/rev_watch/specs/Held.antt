-- Lines that are held by rising numbers, most of them in a run and the others, the strays, in a tree.
-- Rule of this project: what stands where.
use Rattle.std.specs.Prelude.{◌≡◌, ℕ, ◌-◌, ◌<◌, ◌≤◌, nat_lt, Bool, true, false, List, [], ◌∷◌, length, slice_index_or, Option, None, Some}
use Rattle.std.specs.BTreeMap.{BTreeMap, insert_entry}
use Rattle.std.specs.Ordering.{nat_cmp}
use Rattle.rev_watch.specs.Window.{is_held}

-- all lines, by rising numbers
abbrev pub together : {T : Type 0} → List (ℕ × T) → List (ℕ × T) → List (ℕ × T)
together [] strays = strays
together (line ∷ run) strays = insert_entry nat_cmp (together run strays) line.0 line.1

-- all numbers are above this one
abbrev pub AreAbove : {T : Type 0} → ℕ → List (ℕ × T) → Type 0
AreAbove n [] = Unit {0}
AreAbove n (line ∷ lines) = (n < line.0) × AreAbove n lines

-- the numbers rise along the run, and no stray has one of them
abbrev pub IsRun : {T : Type 0} → List (ℕ × T) → List (ℕ × T) → Type 0
IsRun [] strays = Unit {0}
IsRun (line ∷ run) strays = AreAbove line.0 run × (is_held line.0 strays ≡ false) × IsRun run strays

-- the lowest number is the first one of the run
abbrev pub is_first : {T : Type 0} → List (ℕ × T) → List (ℕ × T) → Bool
is_first [] strays = false
is_first (line ∷ run) [] = true
is_first (line ∷ run) (stray ∷ strays) = nat_lt line.0 stray.0

-- all numbers of the run from this place on are above this one
abbrev pub AreHigher : {T : Type 0} → List (ℕ × T) → ℕ → ℕ → Type 0
AreHigher {T} run number place = (j : ℕ) (d : ℕ × T) → place ≤ j → j < length run → number < (slice_index_or run j d).0

-- at this place of the run the number in front is lower than this one, and all from there on are higher
pub record IsNear {T : Type 0} (run : List (ℕ × T)) (number place : ℕ) : Type 0 where
  pub within : place ≤ length run
  pub lower : (d : ℕ × T) → 0 < place → (slice_index_or run (place - 1) d).0 < number
  pub higher : AreHigher run number place

-- the strays that a tree holds, where there is one
abbrev pub in_tree : {T : Type 0} → Option (BTreeMap ℕ T) → List (ℕ × T)
in_tree None = []
in_tree (Some tree) = tree.entries

-- the lowest number
abbrev pub first_number : {T : Type 0} → List (ℕ × T) → Option ℕ
first_number [] = None
first_number (line ∷ lines) = Some line.0
