-- What is read of a script whose steps are played, and no line is answered.
-- Rule of this project: each line makes steps, and the first that makes none ends it. A script of any length is read.
use Rattle.std.specs.Prelude.{◌≡◌, ◌⊎◌, ◌<◌, ◌≤◌, ℕ, List, ◌++◌, length, take, Some}
use Rattle.std.specs.Io.KnownBytes.{Consumes, IsAtEnd}
use Rattle.rev_model.specs.Actor.{Step}
use Rattle.rev_script.specs.Script.{lines, whole_lines}
use Rattle.rev_script.specs.Steps.{all_steps, AreSteps, IsFirstOther}
use Rattle.rev_script.specs.Source.{Told, one_more}
use Rattle.rev_script.specs.declared.dialect.Dialect.{Dialect}
use Rattle.rev_script.specs.declared.source.LastRead.TheVariants.{Failed, Ended}
use Rattle.rev_plays.specs.declared.quiet.TraceFault.{TraceFault}
use Rattle.rev_plays.specs.declared.quiet.TraceFault.TheVariants.{NotAStep, Memory, Read, TooLong}

-- all was read (the last read, with room, gave none, and none failed), each line makes steps, and this is so of all of
-- them
pub record IsThrough (d : Dialect) (old new : Told) (P : List Step → Type 0) : Type 0 where
  pub read : List ℕ
  pub took : Consumes old.remaining new.remaining read
  pub none_left : IsAtEnd new.remaining
  pub ended : new.last ≡ Ended
  pub reads : new.failures ≡ old.failures
  pub steps : List Step
  pub steps_are : all_steps (lines d read) ≡ Some steps
  pub so : P steps

-- a front of the bytes is lines that make steps, and this is what lies behind it
pub record StepsBefore (d : Dialect) (read rest : List ℕ) : Type 0 where
  pub front : List ℕ
  pub read_is : read ≡ front ++ rest
  pub steps : AreSteps (lines d front)

-- why the bytes read did not all become steps: the first line that makes none; or one read failed, the last, and all
-- lines that lie whole in the bytes make steps; or a line with its data is longer than a script may be, or more lines
-- were read than can be counted
abbrev pub Because : TraceFault → Dialect → List ℕ → Told → Told → Type 0
Because (NotAStep line) d read old new = IsFirstOther line (lines d read)
Because Memory d read old new = Unit {0}
Because Read d read old new = (new.last ≡ Failed) × (new.failures ≡ one_more old.failures) × AreSteps (take (whole_lines d read) (lines d read))
Because TooLong d read old new = ((rest : List ℕ) × (4294967296 < length rest) × StepsBefore d read rest) ⊎ (18446744073709551615 ≤ length (lines d read))

-- these bytes were read, and this is why they did not all become steps
pub record IsCutOff (d : Dialect) (old new : Told) (e : TraceFault) : Type 0 where
  pub read : List ℕ
  pub took : Consumes old.remaining new.remaining read
  pub because : Because e d read old new
