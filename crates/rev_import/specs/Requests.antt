-- What becomes of the rows of a trace: a line of a client for each, which makes one step.
-- Rule of this project: which line; `cas` as `set`, since a trace does not tell whether it stored.
use Rattle.std.specs.Prelude.{ℕ, min, max, Bool, true, false, List, [], ◌∷◌, ◌++◌}
use Rattle.rev_requests.specs.declared.clients.Arithmetic.TheVariants as sums
use Rattle.rev_requests.specs.declared.clients.KeyCommand.TheVariants.{Count}
use Rattle.rev_script.specs.Script.{ScriptLine, UpdateLine}
use Rattle.rev_trace.specs.declared.row.Operation.{Operation}
use Rattle.rev_trace.specs.declared.row.Operation.TheVariants as operations
use Rattle.rev_trace.specs.declared.row.Row.{Row}
use Rattle.rev_import.specs.Becoming.{get, delete, exptime_of, store_lines}
use Rattle.rev_import.specs.declared.figures.Figures.{Figures}
use Rattle.rev_import.specs.declared.writing.Storing.{Storing}
use Rattle.rev_import.specs.declared.writing.Storing.TheVariants as storings

-- ---- the line of one row

-- a trace does not tell by how many a number was counted
abbrev pub increment : List ℕ → ScriptLine
increment key = UpdateLine (Count (sums.Increment 1)) key false

abbrev pub decrement : List ℕ → ScriptLine
decrement key = UpdateLine (Count (sums.Decrement 1)) key false

-- filler of the row's size, or of the largest page where it is larger, which no page holds either
abbrev pub stored : Storing → ℕ → Row → List ScriptLine
stored storing now row = store_lines storing row.key 0 (exptime_of now row.ttl) (min row.size 1048576)

-- the lines for an operation, at this second of the clock
abbrev pub lines_for : Operation → ℕ → Row → List ScriptLine
lines_for operations.Get now row = get row.key ∷ []
lines_for operations.Gets now row = get row.key ∷ []
lines_for operations.Set now row = stored storings.Set now row
lines_for operations.Add now row = stored storings.Add now row
lines_for operations.Replace now row = stored storings.Replace now row
lines_for operations.Cas now row = stored storings.Set now row
lines_for operations.Append now row = stored storings.Append now row
lines_for operations.Prepend now row = stored storings.Prepend now row
lines_for operations.Delete now row = delete row.key ∷ []
lines_for operations.Increment now row = increment row.key ∷ []
lines_for operations.Decrement now row = decrement row.key ∷ []
lines_for operations.Unknown now row = []

abbrev pub row_lines : ℕ → Row → List ScriptLine
row_lines now row = lines_for row.operation now row

-- ---- the lines of rows, one behind another

-- the clock stands where it began or at the latest second of a row, and never goes back
abbrev pub clock_at : ℕ → ℕ → ℕ
clock_at start latest = max start latest

-- the latest second of a row
abbrev pub latest_of : ℕ → List Row → ℕ
latest_of latest [] = latest
latest_of latest (row ∷ rows) = latest_of (max latest row.time) rows

abbrev pub lines_of : ℕ → ℕ → List Row → List ScriptLine
lines_of start latest [] = []
lines_of start latest (row ∷ rows) = row_lines (clock_at start (max latest row.time)) row ++ lines_of start (max latest row.time) rows

-- ---- a scribe of rows

-- what a contract sees of it: where the clock began, the latest second of a row, and what was counted
pub record PlainRowScribe : Type 0 where
  pub start : ℕ
  pub latest : ℕ
  pub figures : Figures
