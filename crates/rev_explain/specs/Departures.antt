-- The keys that left on the way from the root to a node, each with its cause.
-- Rule of this project: what `:gone` tells. A step takes keys out of the index in an order of its own, each with a
-- cause; a key that the step stores in the place of the old one has not left.
use Rattle.std.specs.Prelude.{ℕ, Bool, false, cond, nat_le, List, [], ◌∷◌, ◌++◌, Option, None, Some, take, reverse}
use Rattle.rev_model.specs.State.{State}
use Rattle.rev_model.specs.Actor.{Step}
use Rattle.rev_model.specs.Causes.{step_removals}
use Rattle.rev_model.specs.Events.{is_key, stored_key}
use Rattle.rev_model.specs.Track.{Removal}
use Rattle.rev_model.specs.declared.Cause.{Cause}
use Rattle.rev_model.specs.declared.Outcome.{Outcome}
use Rattle.rev_tree.specs.Steps.{outcome_of}
use Rattle.rev_tree.specs.Rows.{Row, row_of, at}
use Rattle.rev_tree.specs.Machine.{lineage}

-- a key that left at a node, and why
pub record PlainDeparture : Type 0 where
  pub node : ℕ
  pub key : List ℕ
  pub cause : Cause

-- what a removal tells of node n: none where the new item of the key came in the place of the old one
abbrev pub departure : ℕ → List ℕ → Bool → Option Cause → List PlainDeparture
departure n k stored None = []
departure n k stored (Some c) = cond stored [] (record { node = n; key = k; cause = c } ∷ [])

-- of the removals of a step that answered this, in their order
abbrev pub departures_in : ℕ → Step → Outcome → List Removal → List PlainDeparture
departures_in n e o [] = []
departures_in n e o (r ∷ rs) = departure n r.key (is_key r.key (stored_key e o)) r.note ++ departures_in n e o rs

-- at node n, whose step was played at the state s
abbrev pub departures_at : ℕ → State → Step → List PlainDeparture
departures_at n s e = departures_in n e (outcome_of s e) (step_removals s e)

-- the same by the row of node n
abbrev pub row_departures : State → List (Option Row) → ℕ → Option Row → List PlainDeparture
row_departures root rows n None = []
row_departures root rows n (Some r) = departures_at n (at root rows r.parent) r.step

abbrev pub departures_along : State → List (Option Row) → List ℕ → List PlainDeparture
departures_along root rows [] = []
departures_along root rows (n ∷ ns) = row_departures root rows n (row_of rows n) ++ departures_along root rows ns

-- at n and the nodes above it, from the root
abbrev pub departures : State → List (Option Row) → ℕ → List PlainDeparture
departures root rows n = departures_along root rows (lineage rows n)

-- whether so many are as many as are wanted
abbrev pub is_enough : Option ℕ → ℕ → Bool
is_enough None count = false
is_enough (Some n) count = nat_le n count

-- the first so many, or all
abbrev pub at_most : {X : Type 0} → Option ℕ → List X → List X
at_most None xs = xs
at_most (Some n) xs = take n xs

-- the last so many, or all
abbrev pub last_of : {X : Type 0} → Option ℕ → List X → List X
last_of limit xs = reverse (at_most limit (reverse xs))
