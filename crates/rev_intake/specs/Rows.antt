-- Traces, one after another, whose rows are taken in. Rule of this project: which rows become lines of the script, what
-- is counted of them, and why traces do not become a script.
use Rattle.std.specs.Prelude.{◌≡◌, ℕ, ◌+◌, max, Bool, true, false, nat_lt, if◌then◌else◌, List, [], ◌∷◌, ◌++◌, length, Option, ⊤}
use Rattle.std.specs.Io.KnownBytes.{Appends}
use Rattle.rev_output.specs.Sink.{one_more}
use Rattle.rev_import.specs.Requests.{clock_at, latest_of, lines_of, row_lines}
use Rattle.rev_choices.specs.Sample.{takes}
use Rattle.rev_import.specs.Writing.{Writes}
use Rattle.rev_import.specs.declared.figures.Figures.{Figures}
use Rattle.rev_choices.specs.declared.Sample.{Sample}
use Rattle.rev_trace.specs.Trace.{IsTrace, HasBad}
use Rattle.rev_trace.specs.declared.fault.TraceFault.{TraceFault}
use Rattle.rev_trace.specs.declared.fault.TraceFault.TheVariants as trace
use Rattle.rev_trace.specs.declared.row.Operation.{Operation}
use Rattle.rev_trace.specs.declared.row.Operation.TheVariants as operations
use Rattle.rev_trace.specs.declared.row.Row.{Row}
use Rattle.rev_intake.specs.Counting.{more}
use Rattle.rev_intake.specs.Sending.{Sends}
use Rattle.rev_intake.specs.declared.fault.RowsFault.{RowsFault}
use Rattle.rev_intake.specs.declared.fault.RowsFault.TheVariants as faults
use Rattle.rev_intake.specs.declared.row_counts.RowCounts.{RowCounts}

-- ---- which rows are asked for

abbrev pub asked_of : Sample → Row → List Row
asked_of sample row = if takes sample.one_of row.key then row ∷ [] else []

-- the rows of the keys that a sample takes, in their order
abbrev pub asked : Sample → List Row → List Row
asked sample [] = []
asked sample (row ∷ rows) = asked_of sample row ++ asked sample rows

-- ---- what is counted

-- nothing was counted
abbrev pub no_rows : RowCounts
no_rows = record {
  asked = 0;
  left_out = 0;
  late = 0;
  get = 0;
  gets = 0;
  set = 0;
  add = 0;
  replace = 0;
  cas = 0;
  append = 0;
  prepend = 0;
  delete = 0;
  increment = 0;
  decrement = 0;
  unknown = 0;
}

-- one more row of an operation
abbrev pub counted_operation : Operation → RowCounts → RowCounts
counted_operation operations.Get c = record c { get = more c.get 1 }
counted_operation operations.Gets c = record c { gets = more c.gets 1 }
counted_operation operations.Set c = record c { set = more c.set 1 }
counted_operation operations.Add c = record c { add = more c.add 1 }
counted_operation operations.Replace c = record c { replace = more c.replace 1 }
counted_operation operations.Cas c = record c { cas = more c.cas 1 }
counted_operation operations.Append c = record c { append = more c.append 1 }
counted_operation operations.Prepend c = record c { prepend = more c.prepend 1 }
counted_operation operations.Delete c = record c { delete = more c.delete 1 }
counted_operation operations.Increment c = record c { increment = more c.increment 1 }
counted_operation operations.Decrement c = record c { decrement = more c.decrement 1 }
counted_operation operations.Unknown c = record c { unknown = more c.unknown 1 }

-- one more row that is asked for, which may be late
abbrev pub counted_late : Bool → RowCounts → RowCounts
counted_late is_late c = record c { late = if is_late then more c.late 1 else c.late }

abbrev pub counted_by : Bool → Operation → RowCounts → RowCounts
counted_by is_late operation c = counted_operation operation (counted_late is_late (record c { asked = more c.asked 1 }))

-- a row that is asked for, behind those of which the latest was at this second
abbrev pub counted_asked : ℕ → Row → RowCounts → RowCounts
counted_asked latest row c = counted_by (nat_lt row.time latest) row.operation c

abbrev pub counted_row : Sample → ℕ → Row → RowCounts → RowCounts
counted_row sample latest row c =
    if takes sample.one_of row.key then counted_asked latest row c else record c { left_out = more c.left_out 1 }

abbrev pub counted : Sample → ℕ → List Row → RowCounts → RowCounts
counted sample latest [] c = c
counted sample latest (row ∷ rows) c = counted sample (latest_of latest (asked_of sample row)) rows (counted_row sample latest row c)

-- ---- an intake

-- what a contract sees of an intake: which keys it takes, where the clock began, the latest second of a row that was
-- asked for, what waits to be sent, and what was counted
pub record PlainRowIntake : Type 0 where
  pub sample : Sample
  pub start : ℕ
  pub latest : ℕ
  pub waits : List ℕ
  pub counts : RowCounts
  pub figures : Figures

-- a row that is asked for was taken in: its lines were written behind what waited, and some of all that was sent
pub record PutsRow (old new : PlainRowIntake) (row : Row) (held holds : Option (List ℕ)) (before after : ℕ) : Type 0 where
  pub same : new.sample ≡ old.sample
  pub start : new.start ≡ old.start
  pub latest : new.latest ≡ max old.latest row.time
  pub counts : new.counts ≡ counted_asked old.latest row old.counts
  pub all : List ℕ
  pub writes : Writes old.waits all (row_lines (clock_at old.start (max old.latest row.time)) row)
  pub sends : Sends all new.waits [] held holds before after

-- these rows were taken in: the lines of those that are asked for were written, and some of all that waited was sent
pub record TakesRows (old new : PlainRowIntake) (rows : List Row) (held holds : Option (List ℕ)) (before after : ℕ) : Type 0 where
  pub same : new.sample ≡ old.sample
  pub start : new.start ≡ old.start
  pub latest : new.latest ≡ latest_of old.latest (asked old.sample rows)
  pub counts : new.counts ≡ counted old.sample old.latest rows old.counts
  pub text : List ℕ
  pub writes : Writes [] text (lines_of old.start old.latest (asked old.sample rows))
  pub sends : Sends old.waits new.waits text held holds before after

-- the traces are over: all that waited was sent
pub record EndsRows (old new : PlainRowIntake) (held holds : Option (List ℕ)) (before after : ℕ) : Type 0 where
  pub appends : Appends held holds old.waits
  pub none_failed : after ≡ before
  pub counts : new.counts ≡ old.counts

-- ---- why it stops

-- a fault of a trace as one of an intake
abbrev pub fault_of_trace : TraceFault → RowsFault
fault_of_trace trace.Memory = faults.Memory
fault_of_trace trace.Read = faults.Read
fault_of_trace (trace.Row line fault) = faults.Row line fault
fault_of_trace trace.TooLong = faults.TooLong

-- why a row was not taken in: memory was refused, or a write failed, the last
abbrev pub StopsRow : ℕ → ℕ → RowsFault → Type 0
StopsRow before after faults.Memory = ⊤
StopsRow before after faults.Read = ⊥
StopsRow before after (faults.Row line fault) = ⊥
StopsRow before after faults.TooLong = ⊥
StopsRow before after faults.Write = after ≡ one_more before
StopsRow before after faults.NoRow = ⊥

-- why a trace of these bytes was not taken in: a row that is none is the first one
abbrev pub SpoilsTrace : Option (List ℕ) → ℕ → ℕ → RowsFault → Type 0
SpoilsTrace bytes before after faults.Memory = ⊤
SpoilsTrace bytes before after faults.Read = ⊤
SpoilsTrace bytes before after (faults.Row line fault) = HasBad bytes line fault
SpoilsTrace bytes before after faults.TooLong = ⊤
SpoilsTrace bytes before after faults.Write = after ≡ one_more before
SpoilsTrace bytes before after faults.NoRow = ⊥

-- why nothing was sent, or not all
abbrev pub StopsEndingRows : PlainRowIntake → Option (List ℕ) → Option (List ℕ) → ℕ → ℕ → RowsFault → Type 0
StopsEndingRows old held holds before after faults.Memory = ⊥
StopsEndingRows old held holds before after faults.Read = ⊥
StopsEndingRows old held holds before after (faults.Row line fault) = ⊥
StopsEndingRows old held holds before after faults.TooLong = ⊥
StopsEndingRows old held holds before after faults.Write = after ≡ one_more before
StopsEndingRows old held holds before after faults.NoRow = (old.counts.asked ≡ 0) × (holds ≡ held) × (after ≡ before)

-- ---- traces

-- the files, one by one, are these traces
abbrev pub AreTraces : {F : Type 0} → (F → Option (List ℕ)) → List F → List (List Row) → Type 0
AreTraces remaining [] [] = ⊤
AreTraces remaining [] (rows ∷ traces) = ⊥
AreTraces remaining (file ∷ files) [] = ⊥
AreTraces remaining (file ∷ files) (rows ∷ traces) = IsTrace (remaining file) rows × AreTraces remaining files traces

-- the rows of all, in their order
abbrev pub all_rows : List (List Row) → List Row
all_rows [] = []
all_rows (rows ∷ traces) = rows ++ all_rows traces

-- one of the traces was not taken in, for this reason, and each before it was
pub record IsTraceSpoilt {F : Type 0} (remaining : F → Option (List ℕ)) (files : List F) (before after : ℕ) (place : ℕ) (e : RowsFault) : Type 0 where
  pub front : List F
  pub traces : List (List Row)
  pub traces_are : AreTraces remaining front traces
  pub file : F
  pub behind : List F
  pub files_are : files ≡ front ++ file ∷ behind
  pub place_is : place ≡ length front
  pub spoils : SpoilsTrace (remaining file) before after e

-- ---- the script

-- the traces became lines, in the order of their rows, and all of it was sent behind what waited
pub record MakesRowScript {F : Type 0} (remaining : F → Option (List ℕ)) (files : List F) (old new : PlainRowIntake) (held holds : Option (List ℕ)) (before after : ℕ) : Type 0 where
  pub traces : List (List Row)
  pub traces_are : AreTraces remaining files traces
  pub text : List ℕ
  pub writes : Writes [] text (lines_of old.start old.latest (asked old.sample (all_rows traces)))
  pub appends : Appends held holds (old.waits ++ text)
  pub none_failed : after ≡ before
  pub counts : new.counts ≡ counted old.sample old.latest (all_rows traces) old.counts

-- the traces were taken in, and it was the end that failed: no row was asked for, or a write failed
abbrev pub StopsAtEndOfTraces : ℕ → ℕ → RowCounts → RowsFault → Type 0
StopsAtEndOfTraces before after counts faults.Memory = ⊥
StopsAtEndOfTraces before after counts faults.Read = ⊥
StopsAtEndOfTraces before after counts (faults.Row line fault) = ⊥
StopsAtEndOfTraces before after counts faults.TooLong = ⊥
StopsAtEndOfTraces before after counts faults.Write = after ≡ one_more before
StopsAtEndOfTraces before after counts faults.NoRow = (counts.asked ≡ 0) × (after ≡ before)

pub record StopsBehindTraces {F : Type 0} (remaining : F → Option (List ℕ)) (files : List F) (old : PlainRowIntake) (before after : ℕ) (e : RowsFault) : Type 0 where
  pub traces : List (List Row)
  pub traces_are : AreTraces remaining files traces
  pub stops : StopsAtEndOfTraces before after (counted old.sample old.latest (all_rows traces) old.counts) e
