-- The look-ups that missed a key from a node of a path on, until a step stores the key.
-- Rule of this project: what is told of whether a key was asked for again.
use Rattle.std.specs.Prelude.{ℕ, ◌+◌, cond, nat_lt, List, [], ◌∷◌, Option, None, Some}
use Rattle.rev_model.specs.State.{State}
use Rattle.rev_model.specs.Actor.{Step}
use Rattle.rev_model.specs.Events.{is_key}
use Rattle.rev_model.specs.declared.Outcome.{Outcome}
use Rattle.rev_tree.specs.Steps.{outcome_of}
use Rattle.rev_tree.specs.Rows.{Row, row_of, at}
use Rattle.rev_figures.specs.Kinds.{command_key, kind_of}
use Rattle.rev_figures.specs.declared.asks.Ask.{Ask}
use Rattle.rev_figures.specs.declared.path.StepKind.{StepKind}
use Rattle.rev_figures.specs.declared.path.StepKind.TheVariants as kind

-- there are none
abbrev pub no_ask : Ask
no_ask = record { count = 0; first = 0 }

-- one more than n, and at most the highest number of 32 bits
abbrev pub one_more : ℕ → ℕ
one_more n = cond (nat_lt n 4294967295) (n + 1) n

-- those from a step on that did this with the key at second t, where a are those behind it
abbrev pub asked_by : StepKind → ℕ → Ask → Ask
asked_by kind.Stored t a = no_ask
asked_by kind.Miss t a = record { count = one_more a.count; first = t }
asked_by kind.Hit t a = a
asked_by kind.Other t a = a

-- the same of any step, whose command may be one on another key
abbrev pub asked_at : List ℕ → Step → Outcome → ℕ → Ask → Ask
asked_at k e o t a = cond (is_key k (command_key e)) (asked_by (kind_of e o) t a) a

-- by the row of node n
abbrev pub row_asked : State → List (Option Row) → List ℕ → ℕ → Option Row → Ask → Ask
row_asked root rows k n None a = a
row_asked root rows k n (Some r) a = asked_at k r.step (outcome_of (at root rows r.parent) r.step) (at root rows n).globals.clock a

-- the look-ups that missed the key at these nodes, until a step stores it
abbrev pub asked_along : State → List (Option Row) → List ℕ → List ℕ → Ask
asked_along root rows k [] = no_ask
asked_along root rows k (n ∷ ns) = row_asked root rows k n (row_of rows n) (asked_along root rows k ns)
