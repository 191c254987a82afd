-- Parts of a script.
-- Rule of this project: a part ends behind a line, where the tree has 983,040 nodes or more, or at the script's end.
use Rattle.std.specs.Prelude.{◌≡◌, ◌≤◌, ◌+◌, ℕ, List, [], ◌∷◌, length, None, Some}
use Rattle.rev_tree.specs.Steps.{Step}
use Rattle.rev_tree.specs.Positions.{SessionState}
use Rattle.rev_script.specs.Line.{PlainInput, IsNext}
use Rattle.rev_script.specs.Lines.{PlainLines, counted_anew}
use Rattle.rev_script.specs.Script.{ScriptLine}
use Rattle.rev_script.specs.Steps.{steps_of, all_steps}
use Rattle.rev_plays.specs.Kept.{Plays}
use Rattle.rev_plays.specs.declared.quiet.TraceFault.{TraceFault}
use Rattle.rev_plays.specs.declared.quiet.TraceFault.TheVariants.{NotAStep, Memory, Read, TooLong}
use Rattle.rev_rules.specs.declared.parts.PartEnd.{PartEnd}
use Rattle.rev_rules.specs.declared.parts.PartEnd.TheVariants.{Whole, Full}

-- a script that is played in parts: its reader, and how many lines were read
pub record PartsState : Type 0 where
  pub lines : PlainLines
  pub count : ℕ

-- the same input, whose bytes are counted from here on
abbrev pub counted : PlainInput → PlainInput
counted b = record b { bytes = record b.bytes { given = 0 } }

-- these lines were read, one behind another
abbrev pub Reads : PlainInput → List ScriptLine → PlainInput → Type 0
Reads b [] c = c ≡ b
Reads b (line ∷ ls) c = (u : PlainInput) × IsNext b u (Some line) × Reads (counted u) ls c

-- the lines' steps lead from the one session to the other, each as a node
pub record IsPlayed (read : List ScriptLine) (m t : SessionState) : Type 0 where
  pub steps : List Step
  pub steps_are : all_steps read ≡ Some steps
  pub plays : Plays m steps t

-- behind a part, no line is left, or the tree has so many nodes
abbrev pub EndsPart : PartEnd → PlainInput → PlainInput → SessionState → Type 0
EndsPart Whole b c t = IsNext b c None
EndsPart Full b c t = (c ≡ b) × (983040 ≤ length t.rows)

-- lines were read, their steps are a part, and each line is counted
pub record IsPart (end : PartEnd) (old new : PartsState) (m t : SessionState) : Type 0 where
  pub read : List ScriptLine
  pub now : PlainInput
  pub reads : Reads old.lines.input read now
  pub count_is : new.count ≡ old.count + length read
  pub played : IsPlayed read m t
  pub ends : EndsPart end now new.lines.input t

-- lines were read that make steps, and the one behind them, of this number, makes none
pub record IsOther (number : ℕ) (old new : PartsState) : Type 0 where
  pub read : List ScriptLine
  pub now : PlainInput
  pub reads : Reads old.lines.input read now
  pub number_is : number ≡ old.count + length read + 1
  pub line : ScriptLine
  pub next : Reads now (line ∷ []) new.lines.input
  pub none : steps_of line ≡ None

-- why a part was not played to its end
abbrev pub IsNoPart : TraceFault → PartsState → PartsState → Type 0
IsNoPart (NotAStep line) old new = IsOther line old new
IsNoPart Memory old new = Unit {0}
IsNoPart Read old new = Unit {0}
IsNoPart TooLong old new = Unit {0}
