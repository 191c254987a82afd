-- What a line of a log says: its time, its number, its kind, in this order, and then the fields of the kind, by
-- their names.
-- Rule of memcached: the lines of `watch` (protocol.txt).
-- Rule of this project: which fault is told of a line that is none.
use Rattle.std.specs.Prelude.{ℕ, ◌-◌, if◌then◌else◌, List, Option, None, Some, Result, Ok, Err}
use Rattle.std.specs.Option.{ok_or}
use Rattle.std.specs.Io.BufRead.{strip_last}
use Rattle.rev_items.specs.Keys.{is_key}
use Rattle.rev_script.specs.Number.{number, number_u32, until, past, has}
use Rattle.rev_watch.specs.Field.{name_of}
use Rattle.rev_watch.specs.Fields.{and_then, value_in, number_in, signed_in, optional_signed_in, look_up_outcome, store_command, store_outcome, fetched, time_left, queue, word_in, key_in, fields_of}
use Rattle.rev_watch.specs.Kinds.{known_kind}
use Rattle.rev_watch.specs.Words.{value_behind}
use Rattle.rev_watch.specs.declared.event.Event.{Event}
use Rattle.rev_watch.specs.declared.event.Event.TheVariants as events
use Rattle.rev_watch.specs.declared.event.Line.{Line}
use Rattle.rev_watch.specs.declared.event.Line.TheVariants as lines
use Rattle.rev_watch.specs.declared.event.Timestamp.{Timestamp}
use Rattle.rev_watch.specs.declared.kind.Kind.{Kind}
use Rattle.rev_watch.specs.declared.kind.Kind.TheVariants as kinds
use Rattle.rev_watch.specs.declared.fault.Field.{Field}
use Rattle.rev_watch.specs.declared.fault.Field.TheVariants as fields
use Rattle.rev_watch.specs.declared.fault.LineFault.{LineFault}
use Rattle.rev_watch.specs.declared.fault.LineFault.TheVariants.{Missing, BadValue}

-- ---- the event of each kind, by its fields. Where a key stands as the log spells it, it has more bytes than on the
-- ---- server. Then the data are as many bytes fewer, but not below 0: so key and data take what they took there

-- a key was looked up
unfoldable pub look_up : {A : Type 0} → List (List ℕ) → Result (Event A) LineFault
look_up ws =
    and_then (value_in fields.Status ws) (λ outcome.
    and_then (number_in 4294967295 fields.Clsid ws) (λ class.
    and_then (signed_in fields.Cfd ws) (λ connection.
    and_then (number_in 4294967295 fields.Size ws) (λ size.
    and_then (key_in ws) (λ named.
    Ok (events.LookUp named.0 (look_up_outcome outcome) class connection (size - named.1)))))))

-- a storage command, whatever became of it
unfoldable pub store : {A : Type 0} → List (List ℕ) → Result (Event A) LineFault
store ws =
    and_then (value_in fields.Status ws) (λ outcome.
    and_then (value_in fields.Cmd ws) (λ command.
    and_then (number_in 4294967295 fields.Ttl ws) (λ ttl.
    and_then (number_in 4294967295 fields.Clsid ws) (λ class.
    and_then (signed_in fields.Cfd ws) (λ connection.
    and_then (number_in 4294967295 fields.Size ws) (λ size.
    and_then (key_in ws) (λ named.
    Ok (events.Store named.0 (store_command command) (store_outcome outcome) ttl class connection (size - named.1)))))))))

-- an item was deleted
unfoldable pub deletion : {A : Type 0} → List (List ℕ) → Result (Event A) LineFault
deletion ws =
    and_then (optional_signed_in fields.Cfd ws) (λ connection.
    and_then (key_in ws) (λ named.
    Ok (events.Deletion named.0 connection)))

-- an item was evicted
unfoldable pub eviction : {A : Type 0} → List (List ℕ) → Result (Event A) LineFault
eviction ws =
    and_then (word_in fetched fields.Fetch ws) (λ was_fetched.
    and_then (word_in time_left fields.Ttl ws) (λ ttl.
    and_then (signed_in fields.La ws) (λ last_access.
    and_then (number_in 4294967295 fields.Clsid ws) (λ class.
    and_then (number_in 4294967295 fields.Size ws) (λ size.
    and_then (key_in ws) (λ named.
    Ok (events.Eviction named.0 was_fetched ttl last_access class (size - named.1))))))))

-- a page goes to another class
unfoldable pub page_move : {A : Type 0} → List (List ℕ) → Result (Event A) LineFault
page_move ws =
    and_then (number_in 4294967295 fields.Src ws) (λ source.
    and_then (number_in 4294967295 fields.Dst ws) (λ target.
    Ok (events.PageMove source target)))

-- the crawler is done with a queue
unfoldable pub crawl_end : {A : Type 0} → List (List ℕ) → Result (Event A) LineFault
crawl_end ws =
    and_then (number_in 4294967295 fields.Crawler ws) (λ class.
    and_then (word_in queue fields.Lru ws) (λ of.
    and_then (number_in 4294967295 fields.Elapsed ws) (λ elapsed.
    and_then (number_in 18446744073709551615 fields.Examined ws) (λ examined.
    and_then (number_in 18446744073709551615 fields.Reclaimed ws) (λ reclaimed.
    Ok (events.CrawlEnd class of elapsed examined reclaimed))))))

-- a connection came
unfoldable pub connection_opened : {A : Type 0} → List (List ℕ) → Result (Event A) LineFault
connection_opened ws = and_then (signed_in fields.Cfd ws) (λ connection. Ok (events.ConnectionOpened connection))

-- a connection went
unfoldable pub connection_closed : {A : Type 0} → List (List ℕ) → Result (Event A) LineFault
connection_closed ws = and_then (signed_in fields.Cfd ws) (λ connection. Ok (events.ConnectionClosed connection))

-- of another kind no field is looked at; its name has a key's form
unfoldable pub unknown : {A : Type 0} → List ℕ → Result (Event A) LineFault
unknown kind = if is_key kind then Ok (events.Unknown kind) else Err (BadValue fields.Kind)

-- the event of a kind, from its fields
abbrev pub event_of_kind : {A : Type 0} → Kind → List (List ℕ) → Result (Event A) LineFault
event_of_kind kinds.LookUp ws = look_up ws
event_of_kind kinds.Store ws = store ws
event_of_kind kinds.Eviction ws = eviction ws
event_of_kind kinds.Deletion ws = deletion ws
event_of_kind kinds.PageMove ws = page_move ws
event_of_kind kinds.CrawlEnd ws = crawl_end ws
event_of_kind kinds.ConnectionOpened ws = connection_opened ws
event_of_kind kinds.ConnectionClosed ws = connection_closed ws

-- the event of a kind, from the text behind its name
abbrev pub event_by_names : {A : Type 0} → Kind → List ℕ → Result (Event A) LineFault
event_by_names kind text = and_then (fields_of text) (event_of_kind kind)

-- the event of the kind that the word names
abbrev pub event_with : {A : Type 0} → Option Kind → List ℕ → List ℕ → Result (Event A) LineFault
event_with None word rest = unknown word
event_with (Some kind) word rest = event_by_names kind rest

-- the event of the kind of this name, from the text behind the name
unfoldable pub event_of : {A : Type 0} → List ℕ → List ℕ → Result (Event A) LineFault
event_of word rest = event_with (known_kind word) word rest

-- ---- time, number and kind

-- seconds, a point and microseconds, which are a number and no decimals: `7.26234` is 26234 microseconds after second 7
abbrev pub time_of : Option ℕ → Option ℕ → Option Timestamp
time_of None micros = None
time_of (Some seconds) None = None
time_of (Some seconds) (Some micros) = Some record { seconds = seconds; microseconds = micros }

-- the time that a value says
unfoldable pub timestamp : List ℕ → Option Timestamp
timestamp v = if has 46 v then time_of (number_u32 (until 46 v)) (number 999999 (past 46 v)) else None

-- the value of a word that has to be of this name
abbrev pub value_of : Field → List ℕ → Result (List ℕ) LineFault
value_of field word = ok_or (value_behind (name_of field) 61 word) (Missing field)

-- the time, by its word
unfoldable pub timestamp_of : List ℕ → Result Timestamp LineFault
timestamp_of word = and_then (value_of fields.Ts word) (λ v. ok_or (timestamp v) (BadValue fields.Ts))

-- the number, by its word
unfoldable pub gid_of : List ℕ → Result ℕ LineFault
gid_of word = and_then (value_of fields.Gid word) (λ v. ok_or (number 18446744073709551615 v) (BadValue fields.Gid))

-- the text behind the first space, or nothing
abbrev pub behind : List ℕ → List ℕ
behind text = past 32 text

-- the bytes before the first space, or all
abbrev pub first : List ℕ → List ℕ
first text = until 32 text

-- the line of this time and number, from the text behind them
abbrev pub line_behind : {A : Type 0} → Timestamp → ℕ → List ℕ → Result (Line A) LineFault
line_behind time gid text =
    and_then (value_of fields.Kind (first text)) (λ kind.
    and_then (event_of kind (behind text)) (λ event.
    Ok (lines.Log record { time = time; gid = gid; event = event })))

-- a line of the log
unfoldable pub log_line : {A : Type 0} → List ℕ → Result (Line A) LineFault
log_line text =
    and_then (timestamp_of (first text)) (λ time.
    and_then (gid_of (first (behind text))) (λ gid.
    line_behind time gid (behind (behind text))))

-- lines were left out
unfoldable pub skipped_line : {A : Type 0} → List ℕ → Result (Line A) LineFault
skipped_line v = and_then (ok_or (number 18446744073709551615 v) (BadValue fields.Skipped)) (λ n. Ok (lines.Skipped n))

-- what a text says: it is a line of the log where it begins with `ts=`, and tells of lines left out where it begins
-- with `skipped=`
abbrev pub told_behind : {A : Type 0} → Option (List ℕ) → Option (List ℕ) → List ℕ → Result (Line A) LineFault
told_behind (Some time) skipped text = log_line text
told_behind None (Some count) text = skipped_line count
told_behind None None text = Ok lines.Other

-- what a text says
unfoldable pub line_in : {A : Type 0} → List ℕ → Result (Line A) LineFault
line_in text = told_behind (value_behind (name_of fields.Ts) 61 text) (value_behind (name_of fields.Skipped) 61 text) text

-- what the bytes of a line say, without the LF at its end; a CR there is left out
abbrev pub line_of : {A : Type 0} → List ℕ → Result (Line A) LineFault
line_of bytes = line_in (strip_last 13 bytes)
