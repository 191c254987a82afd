-- What a trace leaves that is played in a tree that is kept. Rule of this project: each step of a trace is a node, as
-- each step of a run is, and the first step that a limit of the tree refuses ends it.
use Rattle.std.specs.Prelude.{◌≡◌, ◌≢◌, ◌+◌, ◌⊎◌, ℕ, List, [], ◌∷◌, ◌++◌, take, None, Some, slice_get}
use Rattle.std.specs.Io.KnownBytes.{Consumes}
use Rattle.rev_model.specs.Actor.{Step}
use Rattle.rev_tree.specs.Positions.{SessionState}
use Rattle.rev_script.specs.Script.{ScriptLine, lines}
use Rattle.rev_script.specs.Steps.{steps_of, all_steps}
use Rattle.rev_script.specs.Source.{Told}
use Rattle.rev_script.specs.declared.dialect.Dialect.{Dialect}
use Rattle.rev_plays.specs.Replies.{reply, after_step}
use Rattle.rev_plays.specs.Quiet.{quiet_of}
use Rattle.rev_plays.specs.Traces.{IsThrough}
use Rattle.rev_plays.specs.declared.quiet.Quiet.TheVariants.{Played}
use Rattle.rev_plays.specs.declared.trace.TraceEnd.{TraceEnd}
use Rattle.rev_plays.specs.declared.trace.TraceEnd.TheVariants.{Whole, Full}
use Rattle.rev_plays.specs.declared.trace.Went.{Went}
use Rattle.rev_plays.specs.declared.trace.Went.TheVariants as went

-- the tree has room for the step
abbrev pub Fits : SessionState → Step → Type 0
Fits m e = quiet_of (reply m e) ≡ Played

-- each of the steps fits and is played as a run plays it: they lead from session m to session t
abbrev pub Plays : SessionState → List Step → SessionState → Type 0
Plays m [] t = t ≡ m
Plays m (e ∷ es) t = Fits m e × Plays (after_step m e) es t

-- one of the steps does not fit: those before it lead from session m to session t
abbrev pub Fills : SessionState → List Step → SessionState → Type 0
Fills m [] t = ⊥
Fills m (e ∷ es) t = ((Fits m e → ⊥) × (t ≡ m)) ⊎ (Fits m e × Fills (after_step m e) es t)

-- what became of a line's steps
abbrev pub WentBy : Went → SessionState → ScriptLine → SessionState → Type 0
WentBy went.Through m line t = (own : List Step) × (steps_of line ≡ Some own) × Plays m own t
WentBy went.Full m line t = (own : List Step) × (steps_of line ≡ Some own) × Fills m own t
WentBy went.NotAStep m line t = steps_of line ≡ None

-- the line of this number, from 1, has a step that does not fit: the steps up to it lead from session m to session t
pub record IsFull (number : ℕ) (ls : List ScriptLine) (m t : SessionState) : Type 0 where
  pub before : ℕ
  pub number_is : number ≡ before + 1
  pub line : ScriptLine
  pub line_is : slice_get ls before ≡ Some line
  pub steps : List Step
  pub steps_are : all_steps (take before ls) ≡ Some steps
  pub own : List Step
  pub own_are : steps_of line ≡ Some own
  pub fills : Fills m (steps ++ own) t

-- these bytes were read, and one of their lines has a step that does not fit
pub record IsFilled (number : ℕ) (d : Dialect) (old new : Told) (m t : SessionState) : Type 0 where
  pub read : List ℕ
  pub took : Consumes old.remaining new.remaining read
  pub full : IsFull number (lines d read) m t

-- how a trace went: all was read, each line makes steps, and all of them are played; or up to a line of which a step
-- does not fit
abbrev pub IsTraced : TraceEnd → Dialect → Told → Told → SessionState → SessionState → Type 0
IsTraced Whole d old new m t = IsThrough d old new (λ steps. Plays m steps t)
IsTraced (Full line) d old new m t = IsFilled line d old new m t
