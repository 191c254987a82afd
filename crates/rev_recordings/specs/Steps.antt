-- What is read of a script whose lines are steps.
-- Rule of this project: a file is steps from its first line to its last, or nothing is played.
use Rattle.std.specs.Prelude.{◌≡◌, ◌<◌, ℕ, List, length, take, Some}
use Rattle.std.specs.Io.KnownBytes.{Consumes, IsAtEnd}
use Rattle.rev_model.specs.Actor as model
use Rattle.rev_script.specs.Script.{ScriptLine, lines, whole_lines}
use Rattle.rev_script.specs.Steps.{steps_of, joined, all_steps, AreSteps, IsFirstOther}
use Rattle.rev_script.specs.Source.{Told, one_more}
use Rattle.rev_script.specs.declared.dialect.Dialect.{Dialect}
use Rattle.rev_script.specs.declared.byte_reader.LineFault.{LineFault}
use Rattle.rev_script.specs.declared.byte_reader.LineFault.TheVariants as faults
use Rattle.rev_script.specs.declared.source.LastRead.TheVariants.{Failed, Ended}
use Rattle.rev_recordings.specs.declared.steps.ScriptFault.{ScriptFault}
use Rattle.rev_recordings.specs.declared.steps.ScriptFault.TheVariants.{NotAStep, Memory, Read, TooLong}

-- the line makes steps, and they stand behind the others
abbrev pub Adds : List model.Step → List model.Step → ScriptLine → Type 0
Adds old new line = joined (Some old) (steps_of line) ≡ Some new

-- why the bytes read did not become steps: the first line that makes none; or one read failed, the last, or more bytes
-- were read than may be, and all lines that lie whole in the bytes (in those that a script may have) make steps
abbrev pub Because : ScriptFault → Dialect → List ℕ → Told → Told → Type 0
Because (NotAStep line) d read old new = IsFirstOther line (lines d read)
Because Memory d read old new = Unit {0}
Because Read d read old new = (new.last ≡ Failed) × (new.failures ≡ one_more old.failures) × AreSteps (take (whole_lines d read) (lines d read))
Because TooLong d read old new = (4294967296 < length read) × AreSteps (take (whole_lines d (take 4294967296 read)) (lines d read))

-- all was read (the last read, with room, gave none, and none failed), and these are the steps of all its lines
pub record IsRead (d : Dialect) (old new : Told) (steps : List model.Step) : Type 0 where
  pub read : List ℕ
  pub took : Consumes old.remaining new.remaining read
  pub none_left : IsAtEnd new.remaining
  pub ended : new.last ≡ Ended
  pub reads : new.failures ≡ old.failures
  pub steps_are : all_steps (lines d read) ≡ Some steps

-- these bytes were read, and this is why they did not become steps
pub record IsRefused (d : Dialect) (old new : Told) (e : ScriptFault) : Type 0 where
  pub read : List ℕ
  pub took : Consumes old.remaining new.remaining read
  pub because : Because e d read old new

-- a reader's fault as one of a script
abbrev pub script_fault : LineFault → ScriptFault
script_fault faults.Memory = Memory
script_fault faults.Read = Read
script_fault faults.TooLong = TooLong
