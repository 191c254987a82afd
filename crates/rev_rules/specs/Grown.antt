-- What scripts become of whose steps so many are kept.
-- Rule of this project: the steps in front of the root led to it, and each of the others is a node, behind the one before
-- it. The root is where what is kept begins. The first step that the tree has no room for ends the scripts.
use Rattle.std.specs.Prelude.{◌≡◌, ◌≢◌, ◌≤◌, ◌<◌, ◌+◌, ◌==◌, ◌&&◌, ℕ, Bool, nat_le, if◌then◌else◌, List, [], ◌∷◌, ◌++◌, length, take, None, Some, slice_get}
use Rattle.std.specs.Io.KnownBytes.{Consumes}
use Rattle.rev_tree.specs.Steps.{State, Step}
use Rattle.rev_tree.specs.Positions.{SessionState}
use Rattle.rev_watch.specs.declared.event.Timestamp.{Timestamp}
use Rattle.rev_script.specs.Script.{ScriptLine, lines}
use Rattle.rev_script.specs.Steps.{steps_of, all_steps}
use Rattle.rev_script.specs.Source.{Told}
use Rattle.rev_script.specs.declared.dialect.Dialect.{Dialect}
use Rattle.rev_plays.specs.Replies.{state_of, after_step}
use Rattle.rev_plays.specs.Start.{from_state, run_forward}
use Rattle.rev_plays.specs.Kept.{Fits, Plays}
use Rattle.rev_plays.specs.Traces.{IsThrough}
use Rattle.rev_plays.specs.declared.trace.TraceEnd.{TraceEnd}
use Rattle.rev_plays.specs.declared.trace.TraceEnd.TheVariants.{Whole, Full}
use Rattle.rev_plays.specs.declared.trace.Went.{Went}
use Rattle.rev_plays.specs.declared.trace.Went.TheVariants as went
use Rattle.rev_evidence.specs.Heard.{step_number}
use Rattle.rev_replay.specs.Seeking.{PlainSought, SeekerState, at_first, looked}
use Rattle.rev_replay.specs.Turns.{passes}
use Rattle.rev_replay.specs.declared.keeping.Keeping.{Keeping}
use Rattle.rev_replay.specs.declared.keeping.Keeping.TheVariants.{Nothing, Tree, Last, Behind}

-- ---- the steps, and where they stand

-- how many steps these are; the count stays at the most that 64 bits hold
abbrev pub number_of : List Step → ℕ
number_of steps = step_number 0 (length steps)

-- from a state, these steps led to a session with so many of them in front of its root: those led to the root, and each
-- of the others is a node behind the one before it
pub record GrewBy (first : State) (steps : List Step) (before : ℕ) (m : SessionState) : Type 0 where
  pub front : List Step
  pub back : List Step
  pub steps_are : steps ≡ front ++ back
  pub before_is : before ≡ number_of front
  pub plays : Plays (from_state (run_forward first front)) back m

-- so much is kept: the whole tree, nothing, fewer nodes than a tree has room for, or all from some steps on
abbrev pub IsRooted : Keeping → (before nodes : ℕ) → Type 0
IsRooted Nothing before nodes = nodes ≡ 0
IsRooted (Tree life) before nodes = before ≡ 0
IsRooted Last before nodes = nodes < 983040
IsRooted (Behind steps life) before nodes = (before ≤ steps) × (nodes ≢ 0 → before ≡ steps)

-- ---- scripts that are played

-- what is kept of the steps, how many stand in front of the root, and who looks for a place
pub record GrowingState : Type 0 where
  pub keeping : Keeping
  pub before : ℕ
  pub session : SessionState
  pub seeker : SeekerState

-- these steps led to it from a state
pub record IsGrown (first : State) (steps : List Step) (s : GrowingState) : Type 0 where
  pub grew : GrewBy first steps s.before s.session
  pub rooted : IsRooted s.keeping s.before (length s.session.rows)

-- the same is kept, and the same place is looked for
abbrev pub IsAlike : GrowingState → GrowingState → Type 0
IsAlike old new = (new.keeping ≡ old.keeping) × (new.seeker.sought ≡ old.seeker.sought)

-- no step was played yet, and the first one is played in this state
pub record Begins (first : State) (k : Keeping) (sought : PlainSought) (s : GrowingState) : Type 0 where
  pub keeping_is : s.keeping ≡ k
  pub sought_is : s.seeker.sought ≡ sought
  pub grown : IsGrown first [] s

-- these steps lead on, whatever led there
pub record GoesOn (old : GrowingState) (steps : List Step) (new : GrowingState) : Type 0 where
  pub alike : IsAlike old new
  pub leads : (first : State) (front : List Step) → IsGrown first front old → IsGrown first (front ++ steps) new

-- the tree has no room for one of these steps, and those before it lead on
pub record Fills (old : GrowingState) (steps : List Step) (new : GrowingState) : Type 0 where
  pub fit : List Step
  pub refused : Step
  pub more : List Step
  pub steps_are : steps ≡ fit ++ refused ∷ more
  pub goes_on : GoesOn old fit new
  pub no_room : Fits new.session refused → ⊥

-- the session's clock
abbrev pub time_of : SessionState → Timestamp
time_of m = record { seconds = (state_of m).globals.clock; microseconds = 0 }

-- a step was played
abbrev pub with_step : GrowingState → Step → GrowingState
with_step s e = record s { session = after_step s.session e }

-- the place was looked for
abbrev pub with_look : GrowingState → GrowingState
with_look s = record s { seeker = looked s.seeker s.before (time_of s.session) s.session }

-- the nodes were let go
abbrev pub anew : GrowingState → GrowingState
anew s = record s { before = step_number s.before (length s.session.rows); session = from_state (state_of s.session) }

-- the same where they are not kept
abbrev pub passed : GrowingState → GrowingState
passed s = if passes s.keeping s.before (length s.session.rows) then anew s else s

-- ---- lines

-- what became of a line's steps
abbrev pub WentBy : Went → GrowingState → ScriptLine → GrowingState → Type 0
WentBy went.Through m line t = (own : List Step) × (steps_of line ≡ Some own) × GoesOn m own t
WentBy went.Full m line t = (own : List Step) × (steps_of line ≡ Some own) × Fills m own t
WentBy went.NotAStep m line t = steps_of line ≡ None

-- the line of this number, from 1, has a step that the tree has no room for: the steps up to it lead on
pub record IsFullAt (number : ℕ) (ls : List ScriptLine) (m t : GrowingState) : Type 0 where
  pub before : ℕ
  pub number_is : number ≡ before + 1
  pub line : ScriptLine
  pub line_is : slice_get ls before ≡ Some line
  pub steps : List Step
  pub steps_are : all_steps (take before ls) ≡ Some steps
  pub own : List Step
  pub own_are : steps_of line ≡ Some own
  pub fit : List Step
  pub refused : Step
  pub more : List Step
  pub own_is : own ≡ fit ++ refused ∷ more
  pub goes_on : GoesOn m (steps ++ fit) t
  pub no_room : Fits t.session refused → ⊥

-- these bytes were read, and one of their lines has a step that the tree has no room for
pub record IsFilled (number : ℕ) (d : Dialect) (old new : Told) (m t : GrowingState) : Type 0 where
  pub read : List ℕ
  pub took : Consumes old.remaining new.remaining read
  pub full : IsFullAt number (lines d read) m t

-- how a script went: all was read, each line makes steps, and all of them lead on; or up to a line of which the tree has
-- no room for a step
abbrev pub IsTaken : TraceEnd → Dialect → Told → Told → GrowingState → GrowingState → Type 0
IsTaken Whole d old new m t = IsThrough d old new (λ steps. GoesOn m steps t)
IsTaken (Full line) d old new m t = IsFilled line d old new m t

-- ---- what scripts became

-- a tree with so many steps in front of it is the one with a place behind so many steps in it, in front of which so many
-- are kept: it has all steps, and no more of them are in front of the place
abbrev pub serves : (before step keep : ℕ) → Bool
serves before step keep = (before == 0) && nat_le step keep
