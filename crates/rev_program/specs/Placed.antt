-- Where a session on logs stands that lead, and what is told where it stands nowhere.
-- Rule of this project: it has the tree that a replay of the logs grew, and stands at the node behind so many steps, or
-- where the last step left it. A key may be looked for that never left: that is told last, and no session is opened.
use Rattle.std.specs.Prelude.{◌≡◌, ◌⊎◌, ℕ, List, ◌++◌, length, Option, None, Some, codes}
use Rattle.std.specs.declared.alloc.Global.{Global}
use Rattle.rev_classes.specs.declared.Config.{Config}
use Rattle.rev_tree.specs.Positions.{SessionState}
use Rattle.rev_replay.specs.Seeking as seeking
use Rattle.rev_replay.specs.Seeking.{PlainSought, IsPlaceOf, node_behind, stood}
use Rattle.rev_replay.specs.Turns.{Grows}
use Rattle.rev_replay.specs.declared.grown.Grown.{Grown}
use Rattle.rev_replay.specs.declared.keeping.Keeping.{Keeping}
use Rattle.rev_replay.specs.declared.seeking.Spot.{Spot}
use Rattle.rev_options.specs.Request.{key_until}
use Rattle.rev_options.specs.declared.standing.Standing.{Standing}
use Rattle.rev_options.specs.declared.standing.Until.{Until}
use Rattle.rev_options.specs.declared.standing.Until.TheVariants as untils
use Rattle.rev_program.specs.declared.placed.Opened.{Opened}
use Rattle.rev_program.specs.declared.placed.Placed.{Placed}
use Rattle.rev_program.specs.declared.placed.Placed.TheVariants.{There, NeverLeft}

-- ---- where the session stands

-- a replay of logs, of a server with this configuration, grew this from a session
pub record IsGrown (config : Config) (grown : Grown Global) : Type 0 where
  pub keeping : Keeping
  pub first : SessionState
  pub grows : Grows keeping config first grown.session grown.notes grown.before

-- a session that was grown, with so many steps in front of its root, at the node behind so many steps where these are
-- said, and else where it stands
abbrev pub stood_behind : Option ℕ → (before : ℕ) → SessionState → SessionState
stood_behind None before m = m
stood_behind (Some step) before m = stood m (node_behind before (length m.rows) step)

-- a session is opened that a replay of logs grew, of a server with this configuration; it stands behind so many steps,
-- where these are said, and what the log tells of its nodes is the replay's
pub record OpensAt (config : Config) (step : Option ℕ) (opened : Opened) : Type 0 where
  pub keeping : Keeping
  pub first : SessionState
  pub grown : SessionState
  pub before : ℕ
  pub grows : Grows keeping config first grown opened.log before
  pub session_is : opened.session ≡ stood_behind step before grown

-- the same, wherever it stands
abbrev pub Opens : Config → Opened → Type 0
Opens config opened = (step : Option ℕ) × OpensAt config step opened

-- ---- a key that never left

-- by what it is known that a key never left: by logs that lead, or by the steps of scripts
abbrev pub by_logs : List ℕ
by_logs = codes ": by the replay of the logs this key never left\n"

abbrev pub by_steps : List ℕ
by_steps = codes ": by the steps that were played this key never left\n"

-- the text that a key never left, behind notes
abbrev pub with_never : (how notes key : List ℕ) → List ℕ
with_never how notes key = ((notes ++ codes "lrudb: ") ++ key) ++ how

-- that is the end of a text, of the key that is to be gone, which there is
pub record TellsNever (sought : Option (List ℕ)) (text : List ℕ) : Type 0 where
  pub key : List ℕ
  pub is_sought : sought ≡ Some key
  pub how : List ℕ
  pub is_how : (how ≡ by_logs) ⊎ (how ≡ by_steps)
  pub notes : List ℕ
  pub text_is : text ≡ with_never how notes key

-- ---- what comes of a place

-- none was found: no session is opened, and that is so only where a key is to be gone
abbrev pub IsNowhere : Option (List ℕ) → (text : List ℕ) → Placed → Type 0
IsNowhere sought text (There opened) = ⊥
IsNowhere sought text NeverLeft = TellsNever sought text

-- the session stands at the place that was found, if one was
abbrev pub IsPlacedAt : Config → Option Spot → (sought : Option (List ℕ)) → (text : List ℕ) → Placed → Type 0
IsPlacedAt config None sought text placed = IsNowhere sought text placed
IsPlacedAt config (Some spot) sought text (There opened) = OpensAt config (Some spot.step) opened
IsPlacedAt config (Some spot) sought text NeverLeft = ⊥

-- this is looked for where that is asked for; of a key it is not said how it is spelled
abbrev pub LooksFor : Until → PlainSought → Type 0
LooksFor (untils.Step step) sought = sought ≡ seeking.Step step
LooksFor (untils.Second second) sought = sought ≡ seeking.Second second
LooksFor (untils.Gone word) sought = (key : List ℕ) × (sought ≡ seeking.Gone key)
LooksFor untils.End sought = sought ≡ seeking.End

-- a place was looked for and found, or none was, and this came of it
pub record IsSettled (config : Config) (until : Until) (text : List ℕ) (placed : Placed) : Type 0 where
  pub sought : PlainSought
  pub looks_for : LooksFor until sought
  pub spot : Option Spot
  pub is_place : IsPlaceOf sought spot
  pub settled : IsPlacedAt config spot (key_until until) text placed

-- where no place is asked for, a session is opened
abbrev pub IsPlaced : Config → Option Standing → (text : List ℕ) → Placed → Type 0
IsPlaced config None text (There opened) = Opens config opened
IsPlaced config None text NeverLeft = ⊥
IsPlaced config (Some standing) text placed = IsSettled config standing.until text placed
