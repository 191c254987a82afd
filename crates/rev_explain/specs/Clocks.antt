-- The clock at a node, and the last node of a way at which it was no later than some second.
-- Rule of this project: what `:step` and `:time` tell of the clock, by the states along the way.
use Rattle.std.specs.Prelude.{ℕ, ◌≡◌, cond, nat_le, nat_lt, List, [], ◌∷◌, ◌++◌, Option, None, Some, length}
use Rattle.rev_model.specs.State.{State}
use Rattle.rev_model.specs.Actor.{Step, Clock}
use Rattle.rev_model.specs.declared.Outcome.{Outcome}
use Rattle.rev_model.specs.declared.Outcome.TheVariants.{Okay}
use Rattle.rev_tree.specs.Rows.{Row, at}
use Rattle.rev_tree.specs.Machine.{lineage}
use Rattle.rev_tree.specs.Positions.{SessionState}

-- the clock after the step of node n, in seconds; that of the root where n is 0
abbrev pub clock_at : State → List (Option Row) → ℕ → ℕ
clock_at root rows n = (at root rows n).globals.clock

-- the later of two times
abbrev pub later : ℕ → ℕ → ℕ
later t u = cond (nat_lt t u) u t

-- the time that a step sets the clock to where it stands earlier, 0 for a step that sets none
abbrev pub time_set : Step → ℕ
time_set (Clock n) = n
time_set e = 0

-- the clock that a step set that answered this, if it set one: one that stands later stays, and the answer is another
abbrev pub clock_set : Step → Outcome → Option ℕ
clock_set (Clock n) Okay = Some n
clock_set e o = None

-- a node at depth d of the way to the current one, the root at 0: the way to the node begins that way
pub record Climbs (v : SessionState) (d : ℕ) : Type 0 where
  pub node : ℕ
  pub below : List ℕ
  pub splits : lineage v.rows v.current ≡ lineage v.rows node ++ below
  pub deep : length (lineage v.rows node) ≡ d

-- the clock at the node at that depth
pub record Clocked (v : SessionState) (d clock : ℕ) : Type 0 where
  pub climb : Climbs v d
  pub told : clock ≡ clock_at v.root v.rows climb.node

-- the last of these nodes whose clock is at most t, m where there is none
abbrev pub last_by : State → List (Option Row) → ℕ → Option ℕ → List ℕ → Option ℕ
last_by root rows t m [] = m
last_by root rows t m (n ∷ ns) = last_by root rows t (cond (nat_le (clock_at root rows n) t) (Some n) m) ns

-- the same of the root and the nodes on the way to n, itself included
abbrev pub node_by : State → List (Option Row) → ℕ → ℕ → Option ℕ
node_by root rows n t = last_by root rows t None (0 ∷ lineage rows n)
