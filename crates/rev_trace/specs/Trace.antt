-- The rows of a trace.
-- Rule of this project: rows are read as CSV without quotation marks and without a header, and empty lines are none.
use Rattle.std.specs.Prelude.{◌≡◌, ℕ, ◌<◌, ◌+◌, ◌-◌, ◌^◌, Bool, true, false, List, [], ◌∷◌, ◌++◌, length, map, Option, None, Some, option_map, Ok, Err, ⊤}
use Rattle.csv.specs.Reading.{AreRecords, Reached, Ready, ReadRecord, default_config, reader_config, reader_trim, reader_state, source_of, strip_bom}
use Rattle.csv.specs.declared.parser.Config.{Config}
use Rattle.csv.specs.declared.parser.State.{State}
use Rattle.csv.specs.declared.parser.State.TheVariants as states
use Rattle.csv.specs.declared.reader.Reader.{Reader}
use Rattle.csv.specs.declared.reader.Trim.TheVariants as trim
use Rattle.rev_trace.specs.Row.{row_of}
use Rattle.rev_trace.specs.declared.fault.RowFault.{RowFault}
use Rattle.rev_trace.specs.declared.fault.TraceFault.{TraceFault}
use Rattle.rev_trace.specs.declared.fault.TraceFault.TheVariants as faults
use Rattle.rev_trace.specs.declared.reader.TraceReader.{TraceReader}
use Rattle.rev_trace.specs.declared.row.Row.{Row}

-- ---- a trace

-- commas part columns, and quotation marks are bytes like any other
abbrev pub unquoted : Config
unquoted = record default_config { quoting = false }

-- the records are these rows, one by one
abbrev pub AreRows : List (List (List ℕ)) → List Row → Type 0
AreRows records rows = map row_of records ≡ map Ok rows

-- the bytes are these rows
pub record Says (bytes : List ℕ) (rows : List Row) : Type 0 where
  pub records : List (List (List ℕ))
  pub records_are : AreRecords unquoted states.StartRecord (strip_bom bytes) records
  pub rows_are : AreRows records rows

-- the trace's bytes are these rows, where they are known
abbrev pub IsTrace : Option (List ℕ) → List Row → Type 0
IsTrace None rows = ⊤
IsTrace (Some bytes) rows = Says bytes rows

-- the row of this number is none for this reason, and those in front of it are rows
pub record IsFirstBad (bytes : List ℕ) (number : ℕ) (fault : RowFault) : Type 0 where
  pub records : List (List (List ℕ))
  pub rows : List Row
  pub rows_are : AreRows records rows
  pub bad : List (List ℕ)
  pub state : State
  pub rest : List ℕ
  pub reached : Reached unquoted states.StartRecord (strip_bom bytes) (records ++ bad ∷ []) state rest
  pub is_bad : row_of bad ≡ Err fault
  pub numbered : number ≡ length records + 1

abbrev pub HasBad : Option (List ℕ) → ℕ → RowFault → Type 0
HasBad None number fault = ⊤
HasBad (Some bytes) number fault = IsFirstBad bytes number fault

-- ---- a reader

-- what a clause sees of a reader of rows: the reader of columns, and how many rows were read
abbrev pub reader_in : {R : Type 0} → TraceReader R → Reader R
reader_in t = t.rows

abbrev pub row_count : {R : Type 0} → TraceReader R → ℕ
row_count t = t.count

-- it reads columns as a trace has them, and its next read is of one row
abbrev pub IsSteady : {R : Type 0} → Reader R → Type 0
IsSteady r = (reader_config r ≡ unquoted) × (reader_trim r ≡ trim.None) × Ready r

-- nothing was read of the known bytes
abbrev pub IsAtStart : {R : Type 0} → (R → Option (List ℕ)) → Option (List ℕ) → TraceReader R → Type 0
IsAtStart rem known t =
    (source_of rem (reader_in t) ≡ option_map strip_bom known) × (reader_state (reader_in t) ≡ states.StartRecord) × (row_count t ≡ 0)

-- the next row was read, or there is none
abbrev pub TakesNext : {R : Type 0} → (R → Option (List ℕ)) → TraceReader R → TraceReader R → Option Row → Type 0
TakesNext rem old new None = (fields : List (List ℕ)) × ReadRecord rem (reader_in old) (reader_in new) false fields
TakesNext rem old new (Some row) =
    (fields : List (List ℕ)) × ReadRecord rem (reader_in old) (reader_in new) true fields × (row_of fields ≡ Ok row) × (row_count new ≡ row_count old + 1)
    × (row_count old < 2 ^ 64 - 1)

-- why no row was read: where it is a row that is none, it is the next one
abbrev pub StopsBy : {R : Type 0} → (R → Option (List ℕ)) → TraceReader R → TraceReader R → TraceFault → Type 0
StopsBy rem old new faults.Memory = ⊤
StopsBy rem old new faults.Read = ⊤
StopsBy rem old new (faults.Row number fault) =
    (fields : List (List ℕ)) × ReadRecord rem (reader_in old) (reader_in new) true fields × (row_of fields ≡ Err fault) × (number ≡ row_count old + 1)
StopsBy rem old new faults.TooLong = row_count old ≡ 2 ^ 64 - 1
