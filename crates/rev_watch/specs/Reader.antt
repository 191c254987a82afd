-- What a contract sees of a reader of a log.
-- Rule of this project: lines are the same whatever the pieces in which they arrive.
use Rattle.std.specs.Prelude.{◌≡◌, ◌<◌, ◌≤◌, ◌+◌, ◌-◌, ◌^◌, min, ℕ, false, List, [], ◌∷◌, ◌++◌, length, take, slice_range, ◌⊎◌, Option, None, Some, Ok, Err}
use Rattle.std.specs.Io.KnownBytes.{prepend_known, Consumes, Keeps, IsAtEnd}
use Rattle.rev_script.specs.Script.{has_lf}
use Rattle.rev_script.specs.Source.{Told}
use Rattle.rev_script.specs.declared.source.LastRead.TheVariants.{Failed}
use Rattle.rev_watch.specs.Line.{line_of}
use Rattle.rev_watch.specs.declared.fault.LineFault.{LineFault}
use Rattle.rev_watch.specs.declared.fault.LineFault.TheVariants as line_faults
use Rattle.rev_watch.specs.declared.fault.LogFault.{LogFault}
use Rattle.rev_watch.specs.declared.fault.LogFault.TheVariants as faults
use Rattle.rev_watch.specs.declared.reader.LogReader.{LogReader}
use Rattle.rev_watch.specs.declared.reader.NextLine.{NextLine}
use Rattle.rev_watch.specs.declared.reader.NextLine.TheVariants.{Whole, CutOff}

-- the bytes that were read and not yet handed out
abbrev pub in_piece : {S : Type 0} → LogReader S → List ℕ
in_piece r = slice_range r.piece r.from r.to

-- the bytes that are left of the log, where they are known
abbrev pub ahead : {S : Type 0} → (S → Told) → LogReader S → Option (List ℕ)
ahead told r = prepend_known (in_piece r) (told r.source).remaining

-- how many lines were handed out; it stays at the most that 64 bits hold
abbrev pub line_count : {S : Type 0} → LogReader S → ℕ
line_count r = r.lines

-- the number of the next line
abbrev pub next_number : {S : Type 0} → LogReader S → ℕ
next_number r = min (r.lines + 1) (2 ^ 64 - 1)

-- the source that it reads
abbrev pub source_in : {S : Type 0} → LogReader S → S
source_in r = r.source

-- which reader it reads
abbrev pub identity : {S : Type 0} → (S → Told) → LogReader S → ℕ
identity told r = (told r.source).identity

-- from old to new these bytes were handed out, and so many lines have been; the reader is the same
pub record Took {S : Type 0} (told : S → Told) (old new : LogReader S) (taken : List ℕ) (count : ℕ) : Type 0 where
  pub bytes : Consumes (ahead told old) (ahead told new) taken
  pub lines : line_count new ≡ count
  pub same : identity told new ≡ identity told old

-- from old to new nothing was handed out; what is at hand grew by these bytes
pub record Grew {S : Type 0} (told : S → Told) (old new : LogReader S) (more : List ℕ) : Type 0 where
  pub piece : in_piece new ≡ in_piece old ++ more
  pub bytes : Keeps (ahead told old) (ahead told new)
  pub lines : line_count new ≡ line_count old
  pub same : identity told new ≡ identity told old

-- nothing was handed out
pub record Kept {S : Type 0} (told : S → Told) (old new : LogReader S) : Type 0 where
  pub bytes : Keeps (ahead told old) (ahead told new)
  pub lines : line_count new ≡ line_count old
  pub same : identity told new ≡ identity told old

-- a line's bytes: no LF, and not too many
abbrev pub IsText : List ℕ → Type 0
IsText text = (has_lf text ≡ false) × (length text ≤ 4096)

-- the next line was taken; a last one without an LF is told as cut off, and none is there only at the end
abbrev pub IsNext : {S A : Type 0} → (S → Told) → LogReader S → LogReader S → Option (NextLine A) → Type 0
IsNext told old new None = Took told old new [] (line_count old) × IsAtEnd (ahead told new)
IsNext told old new (Some (Whole line)) =
    (text : List ℕ) × IsText text × (line_of text ≡ Ok line) × Took told old new (text ++ 10 ∷ []) (next_number old)
IsNext told old new (Some CutOff) =
    (text : List ℕ) × IsText text × (0 < length text) × Took told old new text (next_number old) × IsAtEnd (ahead told new)

-- what is left begins with these bytes
abbrev pub IsAhead : {S : Type 0} → (S → Told) → LogReader S → List ℕ → Type 0
IsAhead told r bytes = (rest : Option (List ℕ)) × Consumes (ahead told r) rest bytes

-- the next line has too many bytes
abbrev pub IsTooLong : {S : Type 0} → (S → Told) → LogReader S → Type 0
IsTooLong told r = (text : List ℕ) × (has_lf text ≡ false) × (4096 < length text) × IsAhead told r text

-- the bytes of the next line, and its LF
abbrev pub IsLineAhead : {S : Type 0} → (S → Told) → LogReader S → List ℕ → Type 0
IsLineAhead told r text = IsText text × IsAhead told r (text ++ 10 ∷ [])

-- the next line is no line of a log by this fault
abbrev pub IsBad : {S : Type 0} (A : Type 0) → (S → Told) → LogReader S → LineFault → Type 0
IsBad A told r fault =
    ((fault ≡ line_faults.TooLong) × IsTooLong told r)
    ⊎ ((text : List ℕ) × IsLineAhead told r text × (line_of {A = A} text ≡ Err fault))

-- what a fault of the log says: a read failed, or the next line is bad, and has this number
abbrev pub IsFault : {S : Type 0} (A : Type 0) → (S → Told) → LogReader S → LogFault → Type 0
IsFault A told r faults.Memory = Unit {0}
IsFault A told r faults.Read = (told r.source).last ≡ Failed
IsFault A told r (faults.Line line fault) = (line ≡ next_number r) × IsBad A told r fault

-- the end of the next line was not found: a read failed, or the line is too long
abbrev pub IsStopped : {S : Type 0} → (S → Told) → LogReader S → LogFault → Type 0
IsStopped told r faults.Memory = ⊥
IsStopped told r faults.Read = (told r.source).last ≡ Failed
IsStopped told r (faults.Line line fault) = (line ≡ next_number r) × (fault ≡ line_faults.TooLong) × IsTooLong told r

-- where the next line ends among the bytes at hand; none where the log ends before
abbrev pub IsEnd : {S : Type 0} → (S → Told) → LogReader S → Option ℕ → Type 0
IsEnd told r None = IsText (in_piece r) × IsAtEnd (told r.source).remaining
IsEnd told r (Some end) =
    (end < length (in_piece r)) × (end ≤ 4096) × (has_lf (take end (in_piece r)) ≡ false)
    × (take (end + 1) (in_piece r) ≡ take end (in_piece r) ++ 10 ∷ [])

-- what a fault of a line's bytes is to a log whose line of this number it is
abbrev pub log_fault : ℕ → LineFault → LogFault
log_fault line line_faults.Memory = faults.Memory
log_fault line fault = faults.Line line fault
