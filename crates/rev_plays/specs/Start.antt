-- What a start leaves: the state after its steps, and no node.
-- Rule of this project: a start may have any number of steps, and nothing above the root that it leaves is known.
use Rattle.std.specs.Prelude.{◌≡◌, ◌≤◌, List, [], ◌∷◌, length, Some}
use Rattle.rev_tree.specs.Steps.{State, Step, next}
use Rattle.rev_tree.specs.Rows.{RowsFall}
use Rattle.rev_tree.specs.Positions.{SessionState}
use Rattle.rev_script.specs.Script.{ScriptLine}
use Rattle.rev_script.specs.Steps.{steps_of}

-- a session with this state at its root, and no other node
abbrev pub from_state : State → SessionState
from_state s = record { root = s; rows = []; current = 0 }

-- the state that the steps leave, one after another
abbrev pub run_forward : State → List Step → State
run_forward s [] = s
run_forward s (e ∷ es) = run_forward (next s e) es

-- from the state s, the line's steps lead to t
abbrev pub Leads : State → ScriptLine → State → Type 0
Leads s line t = (steps : List Step) × (steps_of line ≡ Some steps) × (t ≡ run_forward s steps)

-- so few nodes were played, each behind its parent, that no limit of the tree is near: 64 nodes nest at most 64 deep
pub record IsShort (m : SessionState) : Type 0 where
  pub few : length m.rows ≤ 64
  pub within : m.current ≤ length m.rows
  pub falls : RowsFall m.rows
