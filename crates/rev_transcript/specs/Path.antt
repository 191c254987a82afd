-- The script of the way from a session's root to its current node.
-- Rule of this project: a line for each step of the way, the first one first.
use Rattle.std.specs.Prelude.{◌≡◌, ℕ, Bool, true, List, [], ◌∷◌, ◌++◌, Option, None, Some}
use Rattle.std.specs.List.{list_all}
use Rattle.rev_model.specs.Actor.{Step}
use Rattle.rev_tree.specs.Rows.{Row, row_of}
use Rattle.rev_tree.specs.Machine.{lineage}
use Rattle.rev_lines.specs.Lines.{has_line, script_of, Asks}

-- the step of a row
abbrev pub row_steps : Option Row → List Step
row_steps None = []
row_steps (Some r) = r.step ∷ []

-- the steps of these nodes
abbrev pub steps_along : List (Option Row) → List ℕ → List Step
steps_along rows [] = []
steps_along rows (n ∷ ns) = row_steps (row_of rows n) ++ steps_along rows ns

-- the steps on the way from the root to n
abbrev pub path_steps : List (Option Row) → ℕ → List Step
path_steps rows n = steps_along rows (lineage rows n)

-- the lines of the steps stand behind what was there; it is told whether each step has one, and then what is read of
-- them is the steps
pub record PutAll (old new : List ℕ) (told : Bool) (steps : List Step) : Type 0 where
  pub tells : told ≡ list_all has_line steps
  pub behind : new ≡ old ++ script_of steps
  pub reads : told ≡ true → Asks (script_of steps) steps
