-- Logs, one after another, which are taken in.
-- Rule of this project: what becomes of the lines of logs, and why logs do not become a script.
use Rattle.std.specs.Prelude.{◌≡◌, ◌<◌, ◌≤◌, ◌⊎◌, ℕ, ◌+◌, ◌-◌, ◌^◌, false, List, [], ◌∷◌, ◌++◌, length, Option, None, Some, Err}
use Rattle.std.specs.Io.KnownBytes.{Consumes, IsAtEnd, Appends}
use Rattle.rev_output.specs.Sink.{one_more}
use Rattle.rev_script.specs.Script.{has_lf}
use Rattle.rev_script.specs.Source.{Told}
use Rattle.rev_script.specs.declared.source.LastRead.TheVariants.{Failed}
use Rattle.rev_import.specs.Becoming.{Moves}
use Rattle.rev_watch.specs.Line.{line_of}
use Rattle.rev_watch.specs.Reader.{ahead, line_count, next_number, source_in, IsText, IsBad}
use Rattle.rev_watch.specs.Window.{PlainWindow}
use Rattle.rev_watch.specs.declared.event.Line.{Line}
use Rattle.rev_watch.specs.declared.event.LogLine.{LogLine}
use Rattle.rev_watch.specs.declared.fault.LineFault.{LineFault}
use Rattle.rev_watch.specs.declared.fault.LineFault.TheVariants as line
use Rattle.rev_watch.specs.declared.reader.LogReader.{LogReader}
use Rattle.rev_intake.specs.Counting.{more, counted, counted_end}
use Rattle.rev_intake.specs.Events.{AreLogLines, events, given_out, window_after, ordered}
use Rattle.rev_intake.specs.Intake.{PlainIntake, Reads}
use Rattle.rev_intake.specs.Sending.{Passes}
use Rattle.rev_intake.specs.declared.counts.LineCounts.{LineCounts}
use Rattle.rev_intake.specs.declared.fault.IntakeFault.{IntakeFault}
use Rattle.rev_intake.specs.declared.fault.IntakeFault.TheVariants as faults
use Rattle.rev_intake.specs.declared.intake.Range.{Range}

-- what a log says: its whole lines, and what stands behind the last LF
pub record LogLines (A : Type 0) : Type 0 where
  pub lines : List (Line A)
  pub cut : List ℕ

-- the bytes say it
pub record Says {A : Type 0} (bytes : List ℕ) (log : LogLines A) : Type 0 where
  pub whole : List ℕ
  pub lines_are : AreLogLines log.lines whole
  pub no_line : has_lf log.cut ≡ false
  pub parted : bytes ≡ whole ++ log.cut

-- the log's bytes say it, where they are known
abbrev pub IsLog : {A : Type 0} → Option (List ℕ) → LogLines A → Type 0
IsLog None log = Unit {0}
IsLog (Some bytes) log = Says bytes log

-- the logs, one by one, say these
abbrev pub AreLogs : {F A : Type 0} → (F → Option (List ℕ)) → List F → List (LogLines A) → Type 0
AreLogs remaining [] [] = Unit {0}
AreLogs remaining [] (log ∷ logs) = ⊥
AreLogs remaining (file ∷ files) [] = ⊥
AreLogs remaining (file ∷ files) (log ∷ logs) = IsLog (remaining file) log × AreLogs remaining files logs

-- the lines of all, in their order
abbrev pub all_lines : {A : Type 0} → List (LogLines A) → List (Line A)
all_lines [] = []
all_lines (log ∷ logs) = log.lines ++ all_lines logs

-- what became of them, in numbers
abbrev pub counted_logs : {A : Type 0} → Range → PlainWindow (LogLine A) → List (LogLines A) → LineCounts → LineCounts
counted_logs range w [] c = c
counted_logs range w (log ∷ logs) c = counted_logs range (window_after w (events range log.lines)) logs (counted_end log.cut (counted range w log.lines c))

-- these logs were taken in: those of their events that the window gave out are passed on
pub record TakesLogs {A : Type 0} (old new : PlainIntake A) (logs : List (LogLines A)) (held holds : Option (List ℕ)) (before after : ℕ) : Type 0 where
  pub same : new.range ≡ old.range
  pub window : new.window ≡ window_after old.window (events old.range (all_lines logs))
  pub counts : new.counts ≡ counted_logs old.range old.window logs old.counts
  pub passes : Passes (old.waiting ++ given_out old.window (events old.range (all_lines logs))) new.waiting old.waits new.waits held holds before after

-- a log was read to its end, and taken in
pub record TakesLog {S A : Type 0} (told : S → Told) (log read : LogReader S) (old new : PlainIntake A) (held holds : Option (List ℕ)) (before after : ℕ) : Type 0 where
  pub says : LogLines A
  pub whole : List ℕ
  pub lines_are : AreLogLines says.lines whole
  pub no_line : has_lf says.cut ≡ false
  pub took : Consumes (ahead told log) (ahead told read) (whole ++ says.cut)
  pub ended : IsAtEnd (ahead told read)
  pub takes : TakesLogs old new (says ∷ []) held holds before after

-- what is so where a log was not taken in to its end for this reason: of a line that is none, those in front of it are
-- whole
abbrev pub SpoilsBy : {S : Type 0} (A : Type 0) → (S → Told) → LogReader S → LogReader S → ℕ → ℕ → IntakeFault → Type 0
SpoilsBy A told log read before after faults.Memory = Unit {0}
SpoilsBy A told log read before after faults.Read = (told (source_in read)).last ≡ Failed
SpoilsBy A told log read before after (faults.Line line fault) = (lines : List (Line A)) × Reads told log read lines × (line ≡ next_number read) × IsBad A told read fault
SpoilsBy A told log read before after faults.TooLong = 2 ^ 64 - 1 ≤ line_count read
SpoilsBy A told log read before after faults.Write = after ≡ one_more before
SpoilsBy A told log read before after faults.NoEvent = ⊥

-- why a log was not taken in to its end
pub record Spoils {S : Type 0} (A : Type 0) (told : S → Told) (log read : LogReader S) (before after : ℕ) (e : IntakeFault) : Type 0 where
  pub why : SpoilsBy A told log read before after e

-- ---- from bytes

-- the bytes of a line that is none by this fault, and what stands behind them
abbrev pub IsBadText : (A : Type 0) → List ℕ → LineFault → Type 0
IsBadText A rest fault =
    ((text : List ℕ) × (behind : List ℕ) × (fault ≡ line.TooLong) × (has_lf text ≡ false) × (4096 < length text) × (rest ≡ text ++ behind))
    ⊎ ((text : List ℕ) × (behind : List ℕ) × IsText text × (line_of {A = A} text ≡ Err fault) × (rest ≡ text ++ 10 ∷ behind))

-- the line of this number is none by this fault, and those in front of it are whole
pub record IsFirstBad (A : Type 0) (bytes : List ℕ) (number : ℕ) (fault : LineFault) : Type 0 where
  pub lines : List (Line A)
  pub whole : List ℕ
  pub rest : List ℕ
  pub lines_are : AreLogLines lines whole
  pub parted : bytes ≡ whole ++ rest
  pub counted : number ≡ more (length lines) 1
  pub bad : IsBadText A rest fault

abbrev pub HasBad : (A : Type 0) → Option (List ℕ) → ℕ → LineFault → Type 0
HasBad A None number fault = Unit {0}
HasBad A (Some bytes) number fault = IsFirstBad A bytes number fault

-- why a log of these bytes was not taken in
abbrev pub SpoilsBytes : (A : Type 0) → Option (List ℕ) → ℕ → ℕ → IntakeFault → Type 0
SpoilsBytes A bytes before after faults.Memory = Unit {0}
SpoilsBytes A bytes before after faults.Read = Unit {0}
SpoilsBytes A bytes before after (faults.Line number fault) = HasBad A bytes number fault
SpoilsBytes A bytes before after faults.TooLong = Unit {0}
SpoilsBytes A bytes before after faults.Write = after ≡ one_more before
SpoilsBytes A bytes before after faults.NoEvent = ⊥

-- one of the logs was not taken in, for this reason, and each before it was
pub record IsSpoilt {F : Type 0} (A : Type 0) (remaining : F → Option (List ℕ)) (files : List F) (before after : ℕ) (place : ℕ) (e : IntakeFault) : Type 0 where
  pub front : List F
  pub logs : List (LogLines A)
  pub logs_are : AreLogs remaining front logs
  pub file : F
  pub behind : List F
  pub files_are : files ≡ front ++ file ∷ behind
  pub place_is : place ≡ length front
  pub spoils : SpoilsBytes A (remaining file) before after e

-- ---- the script

-- the logs became lines, by the order of their events, and all of them was sent behind what waited
pub record MakesScript {F A : Type 0} (remaining : F → Option (List ℕ)) (files : List F) (old new : PlainIntake A) (held holds : Option (List ℕ)) (before after : ℕ) : Type 0 where
  pub logs : List (LogLines A)
  pub logs_are : AreLogs remaining files logs
  pub text : List ℕ
  pub moves : Moves (old.waiting ++ ordered old.window (events old.range (all_lines logs))) [] [] text
  pub appends : Appends held holds (old.waits ++ text)
  pub none_failed : after ≡ before
  pub counts : new.counts ≡ counted_logs old.range old.window logs old.counts

-- the logs were taken in, and it was the end that failed: no event was asked for, memory was refused, or a write failed
abbrev pub StopsAtEnd : ℕ → ℕ → LineCounts → IntakeFault → Type 0
StopsAtEnd before after counts faults.Memory = Unit {0}
StopsAtEnd before after counts faults.Read = ⊥
StopsAtEnd before after counts (faults.Line number fault) = ⊥
StopsAtEnd before after counts faults.TooLong = ⊥
StopsAtEnd before after counts faults.Write = after ≡ one_more before
StopsAtEnd before after counts faults.NoEvent = (counts.asked ≡ 0) × (after ≡ before)

pub record StopsBehind {F A : Type 0} (remaining : F → Option (List ℕ)) (files : List F) (old : PlainIntake A) (before after : ℕ) (e : IntakeFault) : Type 0 where
  pub logs : List (LogLines A)
  pub logs_are : AreLogs remaining files logs
  pub stops : StopsAtEnd before after (counted_logs old.range old.window logs old.counts) e
