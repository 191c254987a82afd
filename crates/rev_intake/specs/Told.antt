-- What an import of logs tells of a sample of the keys, and of a start in front of its script.
-- Rule of this project: a line for each matter, with each count in front of what it counts.
use Rattle.std.specs.Prelude.{ℕ, List, [], ◌∷◌, codes}
use Rattle.rev_import.specs.declared.figures.Figures.{Figures}
use Rattle.rev_intake.specs.Report.{part}
use Rattle.rev_intake.specs.declared.counts.LineCounts.{LineCounts}

-- the events of keys that the sample does not take, and the items that no page holds
abbrev pub sample_parts : LineCounts → Figures → List (List ℕ)
sample_parts counts figures =
    part (codes "sample: ") counts.other_keys (codes " events of other keys left out\n")
    ∷ part (codes "too large: ") figures.unfit (codes " values for a page\n")
    ∷ []

-- how many steps stand in the start and in the script
abbrev pub split_parts : ℕ → ℕ → List (List ℕ)
split_parts start script = part (codes "split: ") start (codes " steps in the start") ∷ part (codes ", ") script (codes " in the script\n") ∷ []

-- how the script of these files is run behind its start
abbrev pub run_behind_parts : List ℕ → List (List ℕ)
run_behind_parts prefix =
    codes "to run it: lrudb run $(cat " ∷ prefix ∷ codes ".options) --start " ∷ prefix ∷ codes ".start < " ∷ prefix ∷ codes ".script\n" ∷ []
