-- What becomes of the stage of a replay.
-- Rule of this project: steps are played, each with its role. Where nothing is kept, the stage begins anew behind each
-- event, where it stands; so it does where a tree is kept from some steps on, as long as no more were played, and where
-- the last steps are kept, as soon as the tree may have no room for more. With a life of the server that is played, an
-- empty cache stands in its place.
use Rattle.std.specs.Prelude.{◌≡◌, ℕ, ◌==◌, nat_le, Bool, true, false, List, [], ◌∷◌, length, None, Some}
use Rattle.rev_classes.specs.declared.Config.{Config}
use Rattle.rev_tree.specs.Positions.{SessionState}
use Rattle.rev_plays.specs.Begin.{opened}
use Rattle.rev_model.specs.Actor.{Client}
use Rattle.rev_model.specs.Client.{Deletes}
use Rattle.rev_lead.specs.declared.role.Role.TheVariants.{Outside}
use Rattle.rev_lead.specs.Acts.{StageState, Act, after, begun}
use Rattle.rev_evidence.specs.Heard.{step_number}
use Rattle.rev_evidence.specs.Notes.{PlainNotes}
use Rattle.rev_replay.specs.declared.keeping.Keeping.{Keeping}
use Rattle.rev_replay.specs.declared.keeping.Keeping.TheVariants.{Nothing, Tree, Last, Behind}

-- ---- which life is played, and what is kept of it

-- a life of this number is played
abbrev pub plays : Keeping → ℕ → Bool
plays Nothing n = true
plays (Tree None) n = true
plays (Tree (Some life)) n = life == n
plays Last n = true
plays (Behind steps life) n = nat_le n life

-- the stage begins anew, which has so many nodes and so many steps in front of its root
abbrev pub passes : Keeping → (before nodes : ℕ) → Bool
passes Nothing before nodes = true
passes (Tree life) before nodes = false
passes Last before nodes = nat_le 983040 nodes
passes (Behind steps life) before nodes = nat_le (step_number before nodes) steps

-- ---- the stage

-- a stage, and how many steps were played in front of its root, over all lives of the server
pub record CountedStage : Type 0 where
  pub before : ℕ
  pub stage : StageState

-- the steps that were played so far
abbrev pub steps_of : CountedStage → ℕ
steps_of s = step_number s.before (length s.stage.session.rows)

-- the stage of a replay, what is kept of it, and the configuration of an empty cache
pub record ReplayState : Type 0 where
  pub keeping : Keeping
  pub config : Config
  pub counted : CountedStage

-- a stage at which nothing was played yet
abbrev pub at_first : Keeping → Config → StageState → ReplayState
at_first k c s = record { keeping = k; config = c; counted = record { before = 0; stage = s } }

-- what becomes of a stage at once: a step is played, it begins anew where it stands, or an empty cache is there
pub data Turn : Type 0 where
  Plays : Act → Turn
  Passes : Turn
  Opens : Turn

-- an empty cache
abbrev pub fresh : Config → StageState
fresh c = record { session = opened c; roles = [] }

-- a stage behind a delete of a key that is in no sample
abbrev pub without : StageState → List ℕ → StageState
without s key = after s (record { step = Client (Deletes key); role = Outside })

-- the stage behind a turn
abbrev pub turned : Config → CountedStage → Turn → CountedStage
turned c s (Plays a) = record { before = s.before; stage = after s.stage a }
turned c s Passes = record { before = steps_of s; stage = begun s.stage }
turned c s Opens = record { before = steps_of s; stage = fresh c }

-- no turn lets a tree go that is kept, and an empty cache is there only where lives of the server begin
abbrev pub is_turn : Keeping → Bool → CountedStage → Turn → Bool
is_turn k lives s (Plays a) = true
is_turn k lives s Passes = passes k s.before (length s.stage.session.rows)
is_turn k lives s Opens = lives

-- the turns, one behind another, lead from the stage s to t
abbrev pub Turns : Keeping → Bool → Config → CountedStage → List Turn → CountedStage → Type 0
Turns k lives c s [] t = t ≡ s
Turns k lives c s (x ∷ later) t = (is_turn k lives s x ≡ true) × Turns k lives c (turned c s x) later t

-- some turns lead on; what is kept and the configuration stay
unfoldable pub GoesOn : (lives : Bool) → ReplayState → ReplayState → Type 0
GoesOn lives old new =
    (new.keeping ≡ old.keeping) × (new.config ≡ old.config)
    × ((turns : List Turn) × Turns old.keeping lives old.config old.counted turns new.counted)

-- from a session another one was grown, with so many steps in front of its root: the first life begins where the one
-- stands, no tree was let go that is kept, and each node of the other has a role, by which it was played, and a moment
pub record Grows (k : Keeping) (c : Config) (m t : SessionState) (notes : PlainNotes) (before : ℕ) : Type 0 where
  pub grown : GoesOn true (at_first k c (begun (record { session = m; roles = [] }))) (record { keeping = k; config = c; counted = record { before = before; stage = record { session = t; roles = notes.roles } } })
  pub roles_are : length notes.roles ≡ length t.rows
  pub moments_are : length notes.moments ≡ length t.rows
