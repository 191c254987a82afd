-- A row of a trace: a request of a client, in seven columns.
-- Rule of the published traces: the columns, their order, and the names of the operations.
-- Rule of this project: which fault is told, and how a key that is shorter than it was is made as long.
use Rattle.std.specs.Prelude.{ℕ, ◌-◌, ◌==◌, Bool, nat_lt, if◌then◌else◌, List, ◌++◌, length, replicate, codes, Option, None, Some, Result, Ok, Err}
use Rattle.std.specs.Str.{bytes_eq}
use Rattle.csv.specs.Records.{field_at}
use Rattle.rev_items.specs.Keys.{is_key}
use Rattle.rev_script.specs.Number.{number_u32}
use Rattle.rev_trace.specs.declared.fault.RowFault.{RowFault}
use Rattle.rev_trace.specs.declared.fault.RowFault.TheVariants.{Columns, Timestamp, KeySize, ValueSize, Ttl, LongKey, BadKey}
use Rattle.rev_trace.specs.declared.row.Numbers.{Numbers}
use Rattle.rev_trace.specs.declared.row.Operation.{Operation}
use Rattle.rev_trace.specs.declared.row.Operation.TheVariants as operations
use Rattle.rev_trace.specs.declared.row.Row.{Row}

-- the column, or nothing where there is none
abbrev pub text_of : Option (List ℕ) → List ℕ
text_of None = codes ""
text_of (Some text) = text

abbrev pub column : List (List ℕ) → ℕ → List ℕ
column fields place = text_of (field_at fields place)

-- the operation of a name
unfoldable pub rare_operation_of : List ℕ → Operation
rare_operation_of w =
    if bytes_eq w (codes "gets") then operations.Gets
    else (if bytes_eq w (codes "replace") then operations.Replace
    else (if bytes_eq w (codes "cas") then operations.Cas
    else (if bytes_eq w (codes "append") then operations.Append
    else (if bytes_eq w (codes "prepend") then operations.Prepend
    else (if bytes_eq w (codes "decr") then operations.Decrement
    else operations.Unknown)))))

unfoldable pub operation_of : List ℕ → Operation
operation_of w =
    if bytes_eq w (codes "get") then operations.Get
    else (if bytes_eq w (codes "set") then operations.Set
    else (if bytes_eq w (codes "add") then operations.Add
    else (if bytes_eq w (codes "delete") then operations.Delete
    else (if bytes_eq w (codes "incr") then operations.Increment
    else rare_operation_of w))))

-- the text with points (46) behind it, until it is as long as the key was
abbrev pub padded : List ℕ → ℕ → List ℕ
padded text size = text ++ replicate (size - length text) 46

-- the key of a text; none is longer than it was, or than 250 bytes
unfoldable pub key_of : List ℕ → ℕ → Result (List ℕ) RowFault
key_of text size =
    if nat_lt 250 size then Err BadKey
    else (if nat_lt size (length text) then Err LongKey
    else (if is_key (padded text size) then Ok (padded text size) else Err BadKey))

-- the numbers of a row: timestamp, key size, value size and time to live
abbrev pub all_numbers : Option ℕ → Option ℕ → Option ℕ → Option ℕ → Result Numbers RowFault
all_numbers None key_size size ttl = Err Timestamp
all_numbers (Some t) None size ttl = Err KeySize
all_numbers (Some t) (Some k) None ttl = Err ValueSize
all_numbers (Some t) (Some k) (Some s) None = Err Ttl
all_numbers (Some t) (Some k) (Some s) (Some l) = Ok record { time = t; key_size = k; size = s; ttl = l }

abbrev pub numbers_in : List (List ℕ) → Result Numbers RowFault
numbers_in fields = all_numbers (number_u32 (column fields 0)) (number_u32 (column fields 2)) (number_u32 (column fields 3)) (number_u32 (column fields 6))

-- the row, from its key, its numbers and its operation
abbrev pub with_key : Result (List ℕ) RowFault → Numbers → Operation → Result Row RowFault
with_key (Err e) n operation = Err e
with_key (Ok key) n operation = Ok record { time = n.time; key = key; size = n.size; operation = operation; ttl = n.ttl }

abbrev pub with_numbers : Result Numbers RowFault → List (List ℕ) → Result Row RowFault
with_numbers (Err e) fields = Err e
with_numbers (Ok n) fields = with_key (key_of (column fields 1) n.key_size) n (operation_of (column fields 5))

-- the row of these columns
unfoldable pub row_of : List (List ℕ) → Result Row RowFault
row_of fields = if length fields == 7 then with_numbers (numbers_in fields) fields else Err Columns
