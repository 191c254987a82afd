-- What is played on a stage.
-- Rule of this project: each step is a node of the session's tree, below the current one, and has a role.
use Rattle.std.specs.Prelude.{◌≡◌, ◌≤◌, List, [], ◌∷◌, ◌++◌, length}
use Rattle.rev_model.specs.Actor.{Step}
use Rattle.rev_model.specs.State.{State}
use Rattle.rev_tree.specs.Rows.{RowsFall}
use Rattle.rev_tree.specs.Positions.{SessionState}
use Rattle.rev_plays.specs.Replies.{played, state_of}
use Rattle.rev_plays.specs.Start.{from_state}
use Rattle.rev_lead.specs.declared.role.Role.{Role}

-- a session, and the role of each of its nodes, by rising numbers
pub record StageState : Type 0 where
  pub session : SessionState
  pub roles : List Role

-- each node was played below one that was played before it, and the session stands at one of them, or at the root
pub record Ordered (m : SessionState) : Type 0 where
  pub falls : RowsFall m.rows
  pub within : m.current ≤ length m.rows

-- a step, and why it is played
pub record Act : Type 0 where
  pub step : Step
  pub role : Role

-- the stage behind an act
abbrev pub after : StageState → Act → StageState
after s a = record { session = played s.session a.step; roles = s.roles ++ a.role ∷ [] }

-- the acts, one behind another, lead from the stage s to t
abbrev pub Acts : StageState → List Act → StageState → Type 0
Acts s [] t = t ≡ s
Acts s (a ∷ later) t = Acts (after s a) later t

-- some acts lead from the stage s to t
unfoldable pub Led : StageState → StageState → Type 0
Led s t = (acts : List Act) × Acts s acts t

-- the state where a stage stands
abbrev pub state_of_stage : StageState → State
state_of_stage s = state_of s.session

-- the stage begins anew where it stands
abbrev pub begun : StageState → StageState
begun s = record { session = from_state (state_of_stage s); roles = [] }
