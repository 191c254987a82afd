-- Rows that were taken in, one after another.
use Rattle.std.proofs.Common.{◌≡◌, ℕ, ◌+◌, ◌<◌, ◌-◌, ◌^◌, max, true, false, List, [], ◌∷◌, ◌++◌, length, length-append, map, Option, None, Some, option_map, Result, Ok, Err, append_assoc, append-nil, refl, sym, ◌∙◌, ap, subst, arith}
use Rattle.std.proofs.lemmas.List.{map-append}
use Rattle.std.specs.Io.KnownBytes.{Appends}
use Rattle.csv.specs.Reading.{AreRecords, Reached, Ready, ReadRecord, reader_config, reader_state, source_of, strip_bom}
use Rattle.csv.specs.declared.parser.State.TheVariants as states
use Rattle.csv.specs.declared.reader.Reader.{Reader}
use Rattle.csv.proofs.ReadFacts.{rows-more, rows-end}
use Rattle.rev_output.specs.Sink.{one_more}
use Rattle.rev_script.specs.Script.{ScriptLine}
use Rattle.rev_import.specs.Requests.{clock_at, latest_of, lines_of, row_lines}
use Rattle.rev_choices.specs.Sample.{takes}
use Rattle.rev_import.specs.Writing.{Writes}
use Rattle.rev_choices.specs.declared.Sample.{Sample}
use Rattle.rev_import.proofs.Written.{more, writes_none}
use Rattle.rev_trace.specs.Row.{row_of}
use Rattle.rev_trace.specs.Trace.{AreRows, Says, IsTrace, IsFirstBad, HasBad, IsSteady, IsAtStart, TakesNext, StopsBy, reader_in, row_count, unquoted}
use Rattle.rev_trace.specs.declared.fault.TraceFault.{TraceFault}
use Rattle.rev_trace.specs.declared.fault.TraceFault.TheVariants as trace
use Rattle.rev_trace.specs.declared.fault.RowFault.{RowFault}
use Rattle.rev_trace.specs.declared.reader.TraceReader.{TraceReader}
use Rattle.rev_trace.specs.declared.row.Row.{Row}
use Rattle.rev_intake.specs.Rows.{asked_of, asked, counted_asked, counted_row, counted, PlainRowIntake, PutsRow, TakesRows, EndsRows, fault_of_trace, StopsRow, SpoilsTrace, StopsEndingRows, AreTraces, all_rows, IsTraceSpoilt, MakesRowScript, StopsAtEndOfTraces, StopsBehindTraces}
use Rattle.rev_intake.specs.Counting.{more as add_one}
use Rattle.rev_intake.specs.Sending.{Sends}
use Rattle.rev_intake.specs.declared.fault.RowsFault.{RowsFault}
use Rattle.rev_intake.specs.declared.fault.RowsFault.TheVariants as faults
use Rattle.rev_intake.specs.declared.row_counts.RowCounts.{RowCounts}
use Rattle.rev_intake.proofs.Passing.{sends_none, sends_all, sends_then, sent_whole}

-- ---- lists

asked_append : (s : Sample) (xs ys : List Row) → asked s (xs ++ ys) ≡ asked s xs ++ asked s ys
asked_append s [] ys = refl
asked_append s (x ∷ xs) ys = ap (λ z. asked_of s x ++ z) (asked_append s xs ys) ∙ sym (append_assoc (asked_of s x) (asked s xs) (asked s ys))

latest_append : (l : ℕ) (xs ys : List Row) → latest_of l (xs ++ ys) ≡ latest_of (latest_of l xs) ys
latest_append l [] ys = refl
latest_append l (x ∷ xs) ys = latest_append (max l x.time) xs ys

lines_append : (start l : ℕ) (xs ys : List Row) → lines_of start l (xs ++ ys) ≡ lines_of start l xs ++ lines_of start (latest_of l xs) ys
lines_append start l [] ys = refl
lines_append start l (x ∷ xs) ys =
    let next = max l x.time in
    let first = row_lines (clock_at start next) x in
    ap (λ z. first ++ z) (lines_append start next xs ys) ∙ sym (append_assoc first (lines_of start next xs) (lines_of start (latest_of next xs) ys))

counted_append : (s : Sample) (l : ℕ) (xs ys : List Row) (c : RowCounts) → counted s l (xs ++ ys) c ≡ counted s (latest_of l (asked s xs)) ys (counted s l xs c)
counted_append s l [] ys c = refl
counted_append s l (x ∷ xs) ys c =
    let next = latest_of l (asked_of s x) in
    let rest = counted s next xs (counted_row s l x c) in
    counted_append s next xs ys (counted_row s l x c)
    ∙ ap (λ v. counted s v ys rest) (sym (latest_append l (asked_of s x) (asked s xs)))

-- ---- what was written

-- by itself
writes_alone : {a b : List ℕ} {cs : List ScriptLine} (w : Writes a b cs) → Writes [] w.adds.text cs
writes_alone w = record {
  lines = w.lines;
  adds = record { text = w.adds.text; behind = refl; lines_are = w.adds.lines_are };
  steps = w.steps;
  of_clients = w.of_clients;
}

-- behind another text
writes_after : {t : List ℕ} {cs : List ScriptLine} (a : List ℕ) → Writes [] t cs → Writes a (a ++ t) cs
writes_after a w = record {
  lines = w.lines;
  adds = record { text = w.adds.text; behind = ap (λ z. a ++ z) w.adds.behind; lines_are = w.adds.lines_are };
  steps = w.steps;
  of_clients = w.of_clients;
}

sent_behind : {a b c : List ℕ} {h i : Option (List ℕ)} {k l : ℕ} {cs : List ScriptLine} (w : Writes a b cs) → Sends b c [] h i k l → Sends a c w.adds.text h i k l
sent_behind {a} {b} w s = record {
  sent = s.sent;
  appends = s.appends;
  same = sym w.adds.behind ∙ sym (append-nil b) ∙ s.same;
  none_failed = s.none_failed;
}

-- ---- an intake

pub rows_none : (x : PlainRowIntake) (held : Option (List ℕ)) (failures : ℕ) → TakesRows x x [] held held failures failures
rows_none x held failures = record {
  same = refl;
  start = refl;
  latest = refl;
  counts = refl;
  text = [];
  writes = writes_none [];
  sends = sends_none x.waits held failures;
}

pub rows_then : {x y z : PlainRowIntake} {rs ss : List Row} {h i j : Option (List ℕ)} {k l m : ℕ} →
    TakesRows x y rs h i k l → TakesRows y z ss i j l m → TakesRows x z (rs ++ ss) h j k m
rows_then {x} {y} {z} {rs} {ss} {h} {i} {j} {k} {l} {m} a b =
    let first = asked x.sample rs in
    let second = asked x.sample ss in
    let all : asked x.sample (rs ++ ss) ≡ first ++ second = asked_append x.sample rs ss in
    let latest : z.latest ≡ latest_of (latest_of x.latest first) second = rw (a.same, a.latest) at b.latest in
    let counts : z.counts ≡ counted x.sample (latest_of x.latest first) ss (counted x.sample x.latest rs x.counts) = rw (a.same, a.latest, a.counts) at b.counts in
    let writes : Writes [] b.text (lines_of x.start (latest_of x.latest first) second) = rw (a.same, a.start, a.latest) at b.writes in
    let lines = sym (lines_append x.start x.latest first second) ∙ ap (λ e. lines_of x.start x.latest e) (sym all) in record {
      same = b.same ∙ a.same;
      start = b.start ∙ a.start;
      latest = latest ∙ sym (latest_append x.latest first second) ∙ ap (λ e. latest_of x.latest e) (sym all);
      counts = counts ∙ sym (counted_append x.sample x.latest rs ss x.counts);
      text = a.text ++ b.text;
      writes = subst (λ c. Writes [] (a.text ++ b.text) c) lines (more a.writes (writes_after a.text writes));
      sends = sends_then a.sends b.sends;
    }

-- a row that is asked for
pub row_put : (x y : PlainRowIntake) (row : Row) (h i : Option (List ℕ)) (k l : ℕ) → takes x.sample.one_of row.key ≡ true → PutsRow x y row h i k l →
    TakesRows x y (row ∷ []) h i k l
row_put x y row h i k l t p = record {
  same = p.same;
  start = p.start;
  latest = rw t p.latest;
  counts = rw t p.counts;
  text = p.writes.adds.text;
  writes = rw t (subst (λ c. Writes [] p.writes.adds.text c) (sym (append-nil (row_lines (clock_at x.start (max x.latest row.time)) row))) (writes_alone p.writes));
  sends = sent_behind p.writes p.sends;
}

-- and one that is not
pub row_left_out : (x y : PlainRowIntake) (row : Row) (held : Option (List ℕ)) (failures : ℕ) → takes x.sample.one_of row.key ≡ false →
    y.sample ≡ x.sample → y.start ≡ x.start → y.latest ≡ x.latest → y.waits ≡ x.waits → y.counts ≡ record x.counts { left_out = add_one x.counts.left_out 1 } →
    TakesRows x y (row ∷ []) held held failures failures
row_left_out x y row held failures t sample start latest waits counts = record {
  same = sample;
  start = start;
  latest = rw t latest;
  counts = rw t counts;
  text = [];
  writes = rw t (writes_none []);
  sends = rw waits (sends_none x.waits held failures);
}

-- ---- a trace

-- these records were read of the known bytes, and are these rows
pub record IsReached {R : Type 0} (rem : R → Option (List ℕ)) (bytes : List ℕ) (t : TraceReader R) (rows : List Row) : Type 0 where
  pub records : List (List (List ℕ))
  pub rest : List ℕ
  pub source : source_of rem (reader_in t) ≡ Some rest
  pub reached : Reached unquoted states.StartRecord (strip_bom bytes) records (reader_state (reader_in t)) rest
  pub rows_are : AreRows records rows
  pub count : row_count t ≡ length records

abbrev pub IsRead : {R : Type 0} → (R → Option (List ℕ)) → Option (List ℕ) → TraceReader R → List Row → Type 0
IsRead rem None t rows = Unit {0}
IsRead rem (Some bytes) t rows = IsReached rem bytes t rows

pub record IsSoFarRows {R : Type 0} (rem : R → Option (List ℕ)) (known : Option (List ℕ)) (t : TraceReader R) (old new : PlainRowIntake) (held holds : Option (List ℕ)) (before after : ℕ) : Type 0 where
  pub steady : IsSteady (reader_in t)
  pub rows : List Row
  pub read : IsRead rem known t rows
  pub takes : TakesRows old new rows held holds before after

read_none : {R : Type 0} (rem : R → Option (List ℕ)) (known : Option (List ℕ)) (t : TraceReader R) → IsAtStart rem known t → IsRead rem known t []
unfolding Reached
read_none rem None t s = tt
read_none rem (Some bytes) t s = record {
  records = [];
  rest = strip_bom bytes;
  source = s.0;
  reached = (sym s.1, refl);
  rows_are = refl;
  count = s.2;
}

pub nothing_read : {R : Type 0} (rem : R → Option (List ℕ)) (known : Option (List ℕ)) (t : TraceReader R) (x : PlainRowIntake) (held : Option (List ℕ)) (failures : ℕ) →
    IsSteady (reader_in t) → IsAtStart rem known t → IsSoFarRows rem known t x x held held failures failures
nothing_read rem known t x held failures steady start = record { steady = steady; rows = []; read = read_none rem known t start; takes = rows_none x held failures }

rows_are_more : (records : List (List (List ℕ))) (rows : List Row) (fields : List (List ℕ)) (row : Row) → AreRows records rows → row_of fields ≡ Ok row →
    AreRows (records ++ fields ∷ []) (rows ++ row ∷ [])
rows_are_more records rows fields row e f =
    map-append row_of records (fields ∷ [])
    ∙ ap (λ z. z ++ row_of fields ∷ []) e
    ∙ ap (λ r. map Ok rows ++ r ∷ []) f
    ∙ sym (map-append Ok rows (row ∷ []))

read_more : {R : Type 0} (rem : R → Option (List ℕ)) (known : Option (List ℕ)) (t u : TraceReader R) (rows : List Row) (row : Row) →
    IsSteady (reader_in t) → IsRead rem known t rows → TakesNext rem t u (Some row) → IsRead rem known u (rows ++ row ∷ [])
read_more rem None t u rows row steady r n = tt
read_more rem (Some bytes) t u rows row steady r (fields, read, is, numbered, few) =
    let (rest, source, reached) = rows-more rem (reader_in t) (reader_in u) fields unquoted states.StartRecord (strip_bom bytes) r.rest r.records steady.0 r.source r.reached read in record {
      records = r.records ++ fields ∷ [];
      rest = rest;
      source = source;
      reached = reached;
      rows_are = rows_are_more r.records rows fields row r.rows_are is;
      count = omega (arith, length-append r.records (fields ∷ []), numbered, r.count);
    }

pub row_more : {R : Type 0} (rem : R → Option (List ℕ)) (known : Option (List ℕ)) (t u : TraceReader R) (x y z : PlainRowIntake) (h i j : Option (List ℕ)) (k l m : ℕ) (row : Row) →
    IsSoFarRows rem known t x y h i k l → IsSteady (reader_in u) → TakesNext rem t u (Some row) → TakesRows y z (row ∷ []) i j l m → IsSoFarRows rem known u x z h j k m
row_more rem known t u x y z h i j k l m row s steady next takes = record {
  steady = steady;
  rows = s.rows ++ row ∷ [];
  read = read_more rem known t u s.rows row s.steady s.read next;
  takes = rows_then s.takes takes;
}

is_over : {R : Type 0} (rem : R → Option (List ℕ)) (known : Option (List ℕ)) (t u : TraceReader R) (rows : List Row) →
    IsSteady (reader_in t) → IsRead rem known t rows → TakesNext rem t u None → IsTrace known rows
is_over rem None t u rows steady r n = tt
is_over rem (Some bytes) t u rows steady r (fields, read) = record {
  records = r.records;
  records_are = (reader_state (reader_in t), r.rest, r.reached, rows-end rem (reader_in t) (reader_in u) fields unquoted r.rest steady.0 r.source read);
  rows_are = r.rows_are;
}

pub trace_over : {R : Type 0} (rem : R → Option (List ℕ)) (known : Option (List ℕ)) (t u : TraceReader R) (x y : PlainRowIntake) (h i : Option (List ℕ)) (k l : ℕ) →
    IsSoFarRows rem known t x y h i k l → TakesNext rem t u None → (rows : List Row) × IsTrace known rows × TakesRows x y rows h i k l
trace_over rem known t u x y h i k l s n = (s.rows, is_over rem known t u s.rows s.steady s.read n, s.takes)

bad_row : {R : Type 0} (rem : R → Option (List ℕ)) (known : Option (List ℕ)) (t u : TraceReader R) (rows : List Row) (number : ℕ) (fault : RowFault) →
    IsSteady (reader_in t) → IsRead rem known t rows → StopsBy rem t u (trace.Row number fault) → HasBad known number fault
bad_row rem None t u rows number fault steady r s = tt
bad_row rem (Some bytes) t u rows number fault steady r (fields, read, bad, numbered) =
    let (rest, source, reached) = rows-more rem (reader_in t) (reader_in u) fields unquoted states.StartRecord (strip_bom bytes) r.rest r.records steady.0 r.source r.reached read in record {
      records = r.records;
      rows = rows;
      rows_are = r.rows_are;
      bad = fields;
      state = reader_state (reader_in u);
      rest = rest;
      reached = reached;
      is_bad = bad;
      numbered = omega (arith, numbered, r.count);
    }

-- the trace is at fault
pub trace_stopped : {R : Type 0} (rem : R → Option (List ℕ)) (known : Option (List ℕ)) (t u : TraceReader R) (x y : PlainRowIntake) (h i : Option (List ℕ)) (k l m : ℕ) (e : TraceFault) →
    IsSoFarRows rem known t x y h i k l → StopsBy rem t u e → SpoilsTrace known k m (fault_of_trace e)
trace_stopped rem known t u x y h i k l m trace.Memory s w = tt
trace_stopped rem known t u x y h i k l m trace.Read s w = tt
trace_stopped rem known t u x y h i k l m (trace.Row number fault) s w = bad_row rem known t u s.rows number fault s.steady s.read w
trace_stopped rem known t u x y h i k l m trace.TooLong s w = tt

-- a row was not taken in, and no write had failed before
pub row_stopped : {R : Type 0} (rem : R → Option (List ℕ)) (known : Option (List ℕ)) (t : TraceReader R) (x y : PlainRowIntake) (h i : Option (List ℕ)) (k l m : ℕ) (e : RowsFault) →
    IsSoFarRows rem known t x y h i k l → StopsRow l m e → SpoilsTrace known k m e
row_stopped rem known t x y h i k l m faults.Memory s w = tt
row_stopped rem known t x y h i k l m faults.Read s w = tt
row_stopped rem known t x y h i k l m (faults.Row number fault) s w = absurd w
row_stopped rem known t x y h i k l m faults.TooLong s w = tt
row_stopped rem known t x y h i k l m faults.Write s w = w ∙ ap one_more s.takes.sends.none_failed
row_stopped rem known t x y h i k l m faults.NoRow s w = absurd w

-- ---- traces

rows_append : (xs ys : List (List Row)) → all_rows (xs ++ ys) ≡ all_rows xs ++ all_rows ys
rows_append [] ys = refl
rows_append (x ∷ xs) ys = ap (λ z. x ++ z) (rows_append xs ys) ∙ sym (append_assoc x (all_rows xs) (all_rows ys))

traces_are_more : {F : Type 0} (remaining : F → Option (List ℕ)) (fs : List F) (f : F) (ts : List (List Row)) (rows : List Row) → AreTraces remaining fs ts → IsTrace (remaining f) rows →
    AreTraces remaining (fs ++ f ∷ []) (ts ++ rows ∷ [])
traces_are_more remaining [] f [] rows a b = (b, tt)
traces_are_more remaining [] f (x ∷ xs) rows a b = absurd a
traces_are_more remaining (g ∷ gs) f [] rows a b = absurd a
traces_are_more remaining (g ∷ gs) f (x ∷ xs) rows a b = (a.0, traces_are_more remaining gs f xs rows a.1 b)

-- the files in front were taken in
pub record AreTracesTaken {F : Type 0} (remaining : F → Option (List ℕ)) (files rest : List F) (old new : PlainRowIntake) (held holds : Option (List ℕ)) (before after place : ℕ) : Type 0 where
  pub front : List F
  pub traces : List (List Row)
  pub traces_are : AreTraces remaining front traces
  pub files_are : files ≡ front ++ rest
  pub place_is : place ≡ length front
  pub takes : TakesRows old new (all_rows traces) held holds before after

pub no_trace_taken : {F : Type 0} (remaining : F → Option (List ℕ)) (files : List F) (x : PlainRowIntake) (held : Option (List ℕ)) (failures : ℕ) →
    AreTracesTaken remaining files files x x held held failures failures 0
no_trace_taken remaining files x held failures =
    record { front = []; traces = []; traces_are = tt; files_are = refl; place_is = refl; takes = rows_none x held failures }

pub trace_taken : {F : Type 0} (remaining : F → Option (List ℕ)) (files all rest : List F) (file : F) (x y z : PlainRowIntake) (h i j : Option (List ℕ)) (k l m place : ℕ) →
    all ≡ file ∷ rest → AreTracesTaken remaining files all x y h i k l place → (rows : List Row) × IsTrace (remaining file) rows × TakesRows y z rows i j l m →
    AreTracesTaken remaining files rest x z h j k m (place + 1)
trace_taken remaining files all rest file x y z h i j k l m place e s (rows, is, t) = record {
  front = s.front ++ file ∷ [];
  traces = s.traces ++ rows ∷ [];
  traces_are = traces_are_more remaining s.front file s.traces rows s.traces_are is;
  files_are = s.files_are ∙ ap (λ z. s.front ++ z) e ∙ sym (append_assoc s.front (file ∷ []) rest);
  place_is = omega (arith, s.place_is, length-append s.front (file ∷ []));
  takes = subst (λ r. TakesRows x z r h j k m) (sym (rows_append s.traces (rows ∷ []) ∙ ap (λ r. all_rows s.traces ++ r) (append-nil rows))) (rows_then s.takes t);
}

pub all_traces_taken : {F : Type 0} (remaining : F → Option (List ℕ)) (files rest : List F) (x y : PlainRowIntake) (h i : Option (List ℕ)) (k l place : ℕ) →
    rest ≡ [] → AreTracesTaken remaining files rest x y h i k l place → (traces : List (List Row)) × AreTraces remaining files traces × TakesRows x y (all_rows traces) h i k l
all_traces_taken remaining files rest x y h i k l place e s =
    let all : files ≡ s.front = s.files_are ∙ ap (λ z. s.front ++ z) e ∙ append-nil s.front in
    (s.traces, subst (λ f. AreTraces remaining f s.traces) (sym all) s.traces_are, s.takes)

-- no write had failed before
spoils_later : (bytes : Option (List ℕ)) (k l m : ℕ) (e : RowsFault) → l ≡ k → SpoilsTrace bytes l m e → SpoilsTrace bytes k m e
spoils_later bytes k l m e same s = subst (λ n. SpoilsTrace bytes n m e) same s

pub trace_spoilt : {F : Type 0} (remaining : F → Option (List ℕ)) (files all rest : List F) (file : F) (x y : PlainRowIntake) (h i : Option (List ℕ)) (k l m place : ℕ) (e : RowsFault) →
    all ≡ file ∷ rest → AreTracesTaken remaining files all x y h i k l place → SpoilsTrace (remaining file) l m e → IsTraceSpoilt remaining files k m place e
trace_spoilt remaining files all rest file x y h i k l m place e is s why = record {
  front = s.front;
  traces = s.traces;
  traces_are = s.traces_are;
  file = file;
  behind = rest;
  files_are = s.files_are ∙ ap (λ z. s.front ++ z) is;
  place_is = s.place_is;
  spoils = spoils_later (remaining file) k l m e s.takes.sends.none_failed why;
}

-- ---- the script

ended_sends : (y z : PlainRowIntake) (i j : Option (List ℕ)) (l m : ℕ) → EndsRows y z i j l m → Sends y.waits [] [] i j l m
ended_sends y z i j l m end = sends_all y.waits end.appends end.none_failed

pub row_script_made : {F : Type 0} (remaining : F → Option (List ℕ)) (files : List F) (x y z : PlainRowIntake) (h i j : Option (List ℕ)) (k l m : ℕ) →
    (traces : List (List Row)) × AreTraces remaining files traces × TakesRows x y (all_rows traces) h i k l → EndsRows y z i j l m → MakesRowScript remaining files x z h j k m
row_script_made remaining files x y z h i j k l m (traces, are, t) end =
    let all : Sends x.waits [] (t.text ++ []) h j k m = sends_then t.sends (ended_sends y z i j l m end) in record {
      traces = traces;
      traces_are = are;
      text = t.text;
      writes = t.writes;
      appends = subst (λ u. Appends h j (x.waits ++ u)) (append-nil t.text) (sent_whole {t = t.text ++ []} all);
      none_failed = all.none_failed;
      counts = end.counts ∙ t.counts;
    }

pub stopped_behind_traces : {F : Type 0} (remaining : F → Option (List ℕ)) (files : List F) (x y : PlainRowIntake) (h i j : Option (List ℕ)) (k l m : ℕ) (e : RowsFault) →
    (traces : List (List Row)) × AreTraces remaining files traces × TakesRows x y (all_rows traces) h i k l → StopsEndingRows y i j l m e → StopsBehindTraces remaining files x k m e
stopped_behind_traces remaining files x y h i j k l m e (traces, are, t) s = record {
  traces = traces;
  traces_are = are;
  stops = at_end y i j k l m (counted x.sample x.latest (all_rows traces) x.counts) e t.counts t.sends.none_failed s;
}
  where
    at_end : (y : PlainRowIntake) (i j : Option (List ℕ)) (k l m : ℕ) (c : RowCounts) (e : RowsFault) → y.counts ≡ c → l ≡ k → StopsEndingRows y i j l m e → StopsAtEndOfTraces k m c e
    at_end y i j k l m c faults.Memory n f s = absurd s
    at_end y i j k l m c faults.Read n f s = absurd s
    at_end y i j k l m c (faults.Row number fault) n f s = absurd s
    at_end y i j k l m c faults.TooLong n f s = absurd s
    at_end y i j k l m c faults.Write n f s = s ∙ ap one_more f
    at_end y i j k l m c faults.NoRow n f s = (ap (λ z. z.asked) (sym n) ∙ s.0, s.2 ∙ f)
