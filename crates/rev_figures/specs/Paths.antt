-- The rows along a path, from its first node on.
-- Rule of this project: what a report is counted from.
use Rattle.std.specs.Prelude.{ℕ, ◌+◌, ◌-◌, ◌/◌, ◌%◌, Bool, cond, ◌||◌, nat_eq, List, [], ◌∷◌, ◌++◌, Option, None, Some, length}
use Rattle.rev_model.specs.State.{State}
use Rattle.rev_tree.specs.Steps.{outcome_of}
use Rattle.rev_tree.specs.Rows.{Row, row_of, at}
use Rattle.rev_tree.specs.Machine.{lineage}
use Rattle.rev_explain.specs.Departures.{departures_at}
use Rattle.rev_figures.specs.Asks.{asked_along}
use Rattle.rev_figures.specs.Rows.{step_row, leaving_rows, move_rows, bytes_rows}
use Rattle.rev_figures.specs.declared.asks.Ask.{Ask}
use Rattle.rev_figures.specs.declared.path.Leaving.{Leaving}
use Rattle.rev_figures.specs.declared.path.PageMove.{PageMove}
use Rattle.rev_figures.specs.declared.path.PathStep.{PathStep}
use Rattle.rev_figures.specs.declared.path.QueueBytes.{QueueBytes}

-- how many steps a slot has, of a path of n: so many that there are at most 120 slots
abbrev pub slot_length : ℕ → ℕ
slot_length n = cond (nat_eq n 0) 1 ((n - 1) / 120 + 1)

-- whether a slot ends at the i-th of n steps
abbrev pub ends_slot : ℕ → ℕ → ℕ → Bool
ends_slot i w n = nat_eq i n || nat_eq (i % w) 0

module _ (root : State) (rows : List (Option Row)) where
  -- a list by the row of a node, with the state before its step
  abbrev pub steps_by : ℕ → Option Row → List PathStep
  steps_by n None = []
  steps_by n (Some r) = step_row n (at root rows n) r.step (outcome_of (at root rows r.parent) r.step) ∷ []

  abbrev pub steps_along : List ℕ → List PathStep
  steps_along [] = []
  steps_along (n ∷ ns) = steps_by n (row_of rows n) ++ steps_along ns

  abbrev pub leavings_by : ℕ → ℕ → (List ℕ → Ask) → Option Row → List Leaving
  leavings_by i n asked None = []
  leavings_by i n asked (Some r) = leaving_rows (at root rows r.parent) i (at root rows n).globals.clock asked (departures_at n (at root rows r.parent) r.step)

  -- the keys that left at these nodes, of which the first is that of the i-th step
  abbrev pub leavings_along : ℕ → List ℕ → List Leaving
  leavings_along i [] = []
  leavings_along i (n ∷ ns) = leavings_by i n (λ (k : List ℕ). asked_along root rows k (n ∷ ns)) (row_of rows n) ++ leavings_along (i + 1) ns

  abbrev pub moves_by : ℕ → ℕ → Option Row → List PageMove
  moves_by i n None = []
  moves_by i n (Some r) = move_rows (at root rows r.parent) i (at root rows n).globals.clock (outcome_of (at root rows r.parent) r.step)

  abbrev pub moves_along : ℕ → List ℕ → List PageMove
  moves_along i [] = []
  moves_along i (n ∷ ns) = moves_by i n (row_of rows n) ++ moves_along (i + 1) ns

  -- the bytes of the classes after those of these steps at which a slot of w steps ends, of a path of m
  abbrev pub bytes_along : ℕ → ℕ → ℕ → List ℕ → List QueueBytes
  bytes_along w m i [] = []
  bytes_along w m i (n ∷ ns) = cond (ends_slot i w m) (bytes_rows (at root rows n) i) [] ++ bytes_along w m (i + 1) ns

  -- the same on the way from the root to n

  -- a row for each step
  abbrev pub path_steps : ℕ → List PathStep
  path_steps n = steps_along (lineage rows n)

  -- a row for each key that left
  abbrev pub path_leavings : ℕ → List Leaving
  path_leavings n = leavings_along 1 (lineage rows n)

  -- a row for each page that moved
  abbrev pub path_moves : ℕ → List PageMove
  path_moves n = moves_along 1 (lineage rows n)

  -- the bytes of each class that owns pages, at the end of each slot
  abbrev pub path_bytes : ℕ → List QueueBytes
  path_bytes n = bytes_along (slot_length (length (lineage rows n))) (length (lineage rows n)) 1 (lineage rows n)
