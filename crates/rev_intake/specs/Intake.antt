-- What an intake of logs holds, and what becomes of lines.
-- Rule of this project: which events become lines of the script, and in which order.
use Rattle.std.specs.Prelude.{◌≡◌, ℕ, ◌+◌, ◌-◌, ◌^◌, false, List, [], ◌∷◌, ◌++◌, length, Option}
use Rattle.std.specs.Io.KnownBytes.{Consumes, IsAtEnd, Appends}
use Rattle.rev_output.specs.Sink.{one_more}
use Rattle.rev_script.specs.Script.{has_lf}
use Rattle.rev_script.specs.Source.{Told}
use Rattle.rev_script.specs.declared.source.LastRead.TheVariants.{Failed}
use Rattle.rev_import.specs.Becoming.{Moves}
use Rattle.rev_import.specs.declared.figures.Figures.{Figures}
use Rattle.rev_watch.specs.Reader.{ahead, line_count, next_number, source_in, IsBad}
use Rattle.rev_watch.specs.Window.{PlainWindow, empty_window}
use Rattle.rev_watch.specs.declared.event.Line.{Line}
use Rattle.rev_watch.specs.declared.event.LogLine.{LogLine}
use Rattle.rev_watch.specs.declared.fault.LogFault.{LogFault}
use Rattle.rev_watch.specs.declared.fault.LogFault.TheVariants as log
use Rattle.rev_watch.specs.declared.reader.LogReader.{LogReader}
use Rattle.rev_intake.specs.Counting.{counted}
use Rattle.rev_intake.specs.Events.{AreLogLines, events, given_out, window_after, held_in}
use Rattle.rev_intake.specs.Sending.{Passes}
use Rattle.rev_intake.specs.declared.counts.LineCounts.{LineCounts}
use Rattle.rev_intake.specs.declared.fault.IntakeFault.{IntakeFault}
use Rattle.rev_intake.specs.declared.fault.IntakeFault.TheVariants as faults
use Rattle.rev_intake.specs.declared.intake.Range.{Range}

-- what a contract sees of an intake: which events it takes, those that the window and the import hold back, what waits
-- to be sent, what was counted; and the second in front of which a start ends, where one is to end and has not, and how
-- many lines of events it had when it ended
pub record PlainIntake (A : Type 0) : Type 0 where
  pub range : Range
  pub window : PlainWindow (LogLine A)
  pub waiting : List (LogLine A)
  pub waits : List ℕ
  pub counts : LineCounts
  pub figures : Figures
  pub split : Option ℕ
  pub start_lines : ℕ

-- the range, the window and the counts are as they were
pub record Rests {A : Type 0} (old new : PlainIntake A) : Type 0 where
  pub range : new.range ≡ old.range
  pub window : new.window ≡ old.window
  pub counts : new.counts ≡ old.counts

-- these lines were taken in: those of their events that the window gave out are passed on
pub record Takes {A : Type 0} (old new : PlainIntake A) (lines : List (Line A)) (held holds : Option (List ℕ)) (before after : ℕ) : Type 0 where
  pub same : new.range ≡ old.range
  pub window : new.window ≡ window_after old.window (events old.range lines)
  pub counts : new.counts ≡ counted old.range old.window lines old.counts
  pub passes : Passes (old.waiting ++ given_out old.window (events old.range lines)) new.waiting old.waits new.waits held holds before after

-- from one reader to another these lines were read, each whole
pub record Reads {S A : Type 0} (told : S → Told) (old new : LogReader S) (lines : List (Line A)) : Type 0 where
  pub bytes : List ℕ
  pub took : Consumes (ahead told old) (ahead told new) bytes
  pub lines_are : AreLogLines lines bytes
  pub count : line_count new ≡ line_count old + length lines

-- a fault of a log as one of an intake
abbrev pub fault_of_log : LogFault → IntakeFault
fault_of_log log.Memory = faults.Memory
fault_of_log log.Read = faults.Read
fault_of_log (log.Line line fault) = faults.Line line fault

-- the logs are over: all that is held back became lines, and all was sent
pub record Ends {A : Type 0} (old new : PlainIntake A) (held holds : Option (List ℕ)) (before after : ℕ) : Type 0 where
  pub text : List ℕ
  pub moves : Moves (old.waiting ++ held_in old.window) [] [] text
  pub appends : Appends held holds (old.waits ++ text)
  pub none_failed : after ≡ before
  pub counts : new.counts ≡ old.counts

-- why nothing was sent, or not all
abbrev pub StopsEnding : {A : Type 0} → PlainIntake A → Option (List ℕ) → Option (List ℕ) → ℕ → ℕ → IntakeFault → Type 0
StopsEnding old held holds before after faults.Memory = Unit {0}
StopsEnding old held holds before after faults.Read = ⊥
StopsEnding old held holds before after (faults.Line line fault) = ⊥
StopsEnding old held holds before after faults.TooLong = ⊥
StopsEnding old held holds before after faults.Write = after ≡ one_more before
StopsEnding old held holds before after faults.NoEvent = (old.counts.asked ≡ 0) × (holds ≡ held) × (after ≡ before)
