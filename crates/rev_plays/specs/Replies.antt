-- What a play of a step does to a session, and what is answered.
-- Rule of memcached: what `get` and `gets` answer, and that `noreply` drops the answer of a step.
-- Rule of this project: each step is a node, and refusals of the tree, which `noreply` does not drop.
use Rattle.std.specs.Prelude.{ℕ, ◌+◌, ◌++◌, Bool, true, false, cond, not, ◌&&◌, nat_eq, nat_lt, List, [], ◌∷◌, length, Some, codes}
use Rattle.rev_model.specs.State.{State}
use Rattle.rev_model.specs.Actor.{Step}
use Rattle.rev_model.specs.declared.Outcome.{Outcome}
use Rattle.rev_model.specs.declared.Outcome.TheVariants as outcomes
use Rattle.rev_tree.specs.Steps.{outcome_of}
use Rattle.rev_tree.specs.Rows.{at, row}
use Rattle.rev_tree.specs.Machine.{is_continued, nesting_below}
use Rattle.rev_tree.specs.Positions.{SessionState}
use Rattle.rev_texts.specs.Texts.{output, outcome_text, found_value, item_of}
use Rattle.rev_script.specs.Steps.{get}
use Rattle.rev_plays.specs.declared.play.Reply.{Reply}
use Rattle.rev_plays.specs.declared.play.Reply.TheVariants.{Played, TooManyNodes, TooDeep}

-- the state at the current node
abbrev pub state_of : SessionState → State
state_of m = at m.root m.rows m.current

-- ---- one step

-- a play is refused where as many nodes were played as may be, and else where the node's forks would nest too deep
abbrev pub is_full : SessionState → Bool
is_full m = nat_eq (length m.rows) 1048576

-- the node's forks would nest too deep
abbrev pub is_too_deep : SessionState → Bool
is_too_deep m = nat_lt (length m.rows) 1048576 && nat_lt 64 (nesting_below m.rows m.current)

-- a play, or why it is refused
unfoldable pub reply : SessionState → Step → Reply
reply m e = cond (is_full m) TooManyNodes (cond (is_too_deep m) TooDeep (Played (outcome_of (state_of m) e)))

-- the step's node is the next one, a child of the current one; it is then the current one
abbrev pub played : SessionState → Step → SessionState
played m e = record {
  root = m.root;
  rows = m.rows ++ Some (row m.current e (not (is_continued m.rows m.current))) ∷ [];
  current = length m.rows + 1;
}

-- a refused play changes nothing
abbrev pub if_played : Reply → SessionState → SessionState → SessionState
if_played (Played o) after before = after
if_played TooManyNodes after before = before
if_played TooDeep after before = before

-- the session after a step
abbrev pub after_step : SessionState → Step → SessionState
after_step m e = if_played (reply m e) (played m e) m

-- what is answered where the play was accepted; else the refusal
abbrev pub or_refused : Reply → List ℕ → List ℕ
or_refused (Played o) text = text
or_refused TooManyNodes text = output (codes "SERVER_ERROR too many nodes")
or_refused TooDeep text = output (codes "SERVER_ERROR too many nested forks")

-- the text of a play's outcome
abbrev pub reply_outcome : Reply → List ℕ
reply_outcome (Played o) = outcome_text o
reply_outcome TooManyNodes = []
reply_outcome TooDeep = []

-- `noreply` drops the step's answer, and not a refusal
abbrev pub reply_text : Bool → Reply → List ℕ
reply_text noreply r = or_refused r (cond noreply [] (reply_outcome r))

-- ---- get, gets: a step a key, in order; a refusal ends the line

-- a get that found its item
abbrev pub is_hit : Outcome → Bool
is_hit (outcomes.Hit len cas) = true
is_hit _ = false

-- the play was a hit
abbrev pub was_hit : Reply → Bool
was_hit (Played o) = is_hit o
was_hit TooManyNodes = false
was_hit TooDeep = false

-- the value's lines where the lookup was a hit
abbrev pub value_of : Bool → Reply → State → List ℕ → List ℕ
value_of with_cas r s k = cond (was_hit r) (found_value with_cas (item_of s k)) []

-- the values of the keys that are hit, and END
abbrev pub values : Bool → SessionState → List (List ℕ) → List ℕ
values with_cas m [] = output (codes "END")
values with_cas m (k ∷ ks) =
    or_refused (reply m (get k)) (value_of with_cas (reply m (get k)) (state_of m) k ++ values with_cas (after_step m (get k)) ks)

-- the session after them
abbrev pub after_gets : SessionState → List (List ℕ) → SessionState
after_gets m [] = m
after_gets m (k ∷ ks) = if_played (reply m (get k)) (after_gets (after_step m (get k)) ks) m
