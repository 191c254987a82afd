-- Logs from files, one after another.
use Rattle.std.proofs.Common.{◌≡◌, ◌<◌, ◌⊎◌, inl, inr, ℕ, ◌+◌, ◌-◌, ◌^◌, min, List, [], ◌∷◌, ◌++◌, length, length-append, Option, None, Some, Err, append_assoc, append-nil, refl, sym, ◌∙◌, ap, subst, arith}
use Rattle.std.specs.Io.KnownBytes.{Consumes, Keeps, IsAtEnd}
use Rattle.rev_output.specs.Sink.{one_more}
use Rattle.rev_script.specs.Source.{Told}
use Rattle.rev_watch.specs.Line.{line_of}
use Rattle.rev_watch.specs.Reader.{ahead, line_count, next_number, IsBad, IsAhead}
use Rattle.rev_watch.specs.Window.{PlainWindow}
use Rattle.rev_watch.specs.declared.event.LogLine.{LogLine}
use Rattle.rev_watch.specs.declared.fault.LineFault.{LineFault}
use Rattle.rev_watch.specs.declared.reader.LogReader.{LogReader}
use Rattle.rev_intake.specs.Counting.{more, counted, counted_end}
use Rattle.rev_intake.specs.Events.{events, given_out, window_after, held_in, ordered}
use Rattle.rev_intake.specs.Intake.{PlainIntake, Ends, StopsEnding}
use Rattle.rev_intake.specs.Logs.{LogLines, Says, IsLog, AreLogs, all_lines, counted_logs, TakesLogs, TakesLog, SpoilsBy, Spoils, IsBadText, IsFirstBad, HasBad, SpoilsBytes, IsSpoilt, MakesScript, StopsAtEnd, StopsBehind}
use Rattle.rev_intake.specs.Sending.{Passes}
use Rattle.rev_intake.specs.declared.counts.LineCounts.{LineCounts}
use Rattle.rev_intake.specs.declared.fault.IntakeFault.{IntakeFault}
use Rattle.rev_intake.specs.declared.fault.IntakeFault.TheVariants as faults
use Rattle.rev_intake.specs.declared.intake.Range.{Range}
use Rattle.rev_intake.proofs.Passing.{passes_none, passes_then, passes_from, sent_whole}
use Rattle.rev_intake.proofs.Taken.{events_append, window_append, given_append}

-- ---- one log

says_all : {A : Type 0} (a b : Option (List ℕ)) (log : LogLines A) (whole : List ℕ) → Says (whole ++ log.cut) log → Consumes a b (whole ++ log.cut) → IsAtEnd b → IsLog a log
says_all None b log whole s c e = tt
says_all (Some bytes) None log whole s c e = absurd c
says_all (Some bytes) (Some left) log whole s c e =
    let all : bytes ≡ whole ++ log.cut = c ∙ ap (λ l. (whole ++ log.cut) ++ l) e ∙ append-nil (whole ++ log.cut) in
    rw all s

-- a log that was read to its end
pub log_said : {S A : Type 0} (told : S → Told) (log read : LogReader S) (bytes : Option (List ℕ)) (old new : PlainIntake A) (h i : Option (List ℕ)) (k l : ℕ) →
    ahead told log ≡ bytes → TakesLog told log read old new h i k l → (of : LogLines A) × IsLog bytes of × TakesLogs old new (of ∷ []) h i k l
log_said {S} {A} told log read bytes old new h i k l e t =
    let says : Says (t.whole ++ t.says.cut) t.says = record { whole = t.whole; lines_are = t.lines_are; no_line = t.no_line; parted = refl } in
    (t.says, subst (λ b. IsLog b t.says) e (says_all (ahead told log) (ahead told read) t.says t.whole says t.took t.ended), t.takes)

-- the bytes behind what was read
parted_more : (a b c : Option (List ℕ)) (xs ys : List ℕ) (bytes : List ℕ) → a ≡ Some bytes → Consumes a b xs → Consumes b c ys → (rest : List ℕ) × (bytes ≡ xs ++ (ys ++ rest))
parted_more None b c xs ys bytes e p q = absurd (cc)
parted_more (Some ks) None c xs ys bytes e p q = absurd p
parted_more (Some ks) (Some ls) None xs ys bytes e p q = absurd q
parted_more (Some ks) (Some ls) (Some ms) xs ys bytes e p q =
    let same : bytes ≡ ks = cc in
    (ms, same ∙ p ∙ ap (λ l. xs ++ l) q)

-- a line that is none, in bytes that are known
bad_text : {S : Type 0} (A : Type 0) (told : S → Told) (log read : LogReader S) (bytes front : List ℕ) (fault : LineFault) → ahead told log ≡ Some bytes →
    Consumes (ahead told log) (ahead told read) front → IsBad A told read fault → (rest : List ℕ) × (bytes ≡ front ++ rest) × IsBadText A rest fault
bad_text A told log read bytes front fault e took (inl (long, (text, no_feed, size, (after, ahead_of)))) =
    let p = parted_more (ahead told log) (ahead told read) after front text bytes e took ahead_of in
    (text ++ p.0, p.1, inl (text, p.0, long, no_feed, size, refl))
bad_text A told log read bytes front fault e took (inr (text, (is_text, (after, ahead_of)), is_bad)) =
    let p = parted_more (ahead told log) (ahead told read) after front (text ++ 10 ∷ []) bytes e took ahead_of in
    ((text ++ 10 ∷ []) ++ p.0, p.1, inr (text, p.0, is_text, is_bad, append_assoc text (10 ∷ []) p.0))

first_bad : {S : Type 0} (A : Type 0) (told : S → Told) (log read : LogReader S) (bytes : List ℕ) (number : ℕ) (fault : LineFault) (k l : ℕ) →
    ahead told log ≡ Some bytes → line_count log ≡ 0 → SpoilsBy A told log read k l (faults.Line number fault) → IsFirstBad A bytes number fault
first_bad A told log read bytes number fault k l e none (lines, reads, numbered, bad) =
    let count : line_count read ≡ length lines = omega (arith, reads.count, none) in
    let b = bad_text A told log read bytes reads.bytes fault e reads.took bad in record {
      lines = lines;
      whole = reads.bytes;
      rest = b.0;
      lines_are = reads.lines_are;
      parted = b.1;
      counted = numbered ∙ ap (λ n. min (n + 1) (2 ^ 64 - 1)) count;
      bad = b.2;
    }

spoilt_by : {S : Type 0} (A : Type 0) (told : S → Told) (log read : LogReader S) (bytes : Option (List ℕ)) (k l : ℕ) (e : IntakeFault) →
    ahead told log ≡ bytes → line_count log ≡ 0 → SpoilsBy A told log read k l e → SpoilsBytes A bytes k l e
spoilt_by A told log read bytes k l faults.Memory is none s = tt
spoilt_by A told log read bytes k l faults.Read is none s = tt
spoilt_by A told log read None k l (faults.Line number fault) is none s = tt
spoilt_by A told log read (Some bytes) k l (faults.Line number fault) is none s = first_bad A told log read bytes number fault k l is none s
spoilt_by A told log read bytes k l faults.TooLong is none s = tt
spoilt_by A told log read bytes k l faults.Write is none s = s
spoilt_by A told log read bytes k l faults.NoEvent is none s = absurd s

-- why a log of these bytes was not taken in
pub bytes_spoilt : {S A : Type 0} {told : S → Told} {log read : LogReader S} {k l : ℕ} {e : IntakeFault} (bytes : Option (List ℕ)) → ahead told log ≡ bytes → line_count log ≡ 0 →
    Spoils A told log read k l e → SpoilsBytes A bytes k l e
bytes_spoilt {S} {A} {told} {log} {read} {k} {l} {e} bytes is none s = spoilt_by A told log read bytes k l e is none s.why

-- ---- logs

lines_append : {A : Type 0} (xs ys : List (LogLines A)) → all_lines (xs ++ ys) ≡ all_lines xs ++ all_lines ys
lines_append [] ys = refl
lines_append (x ∷ xs) ys = ap (λ z. x.lines ++ z) (lines_append xs ys) ∙ sym (append_assoc x.lines (all_lines xs) (all_lines ys))

counted_more : {A : Type 0} (r : Range) (w : PlainWindow (LogLine A)) (xs ys : List (LogLines A)) (c : LineCounts) →
    counted_logs r w (xs ++ ys) c ≡ counted_logs r (window_after w (events r (all_lines xs))) ys (counted_logs r w xs c)
counted_more r w [] ys c = refl
counted_more r w (x ∷ xs) ys c =
    let next = window_after w (events r x.lines) in
    let first = counted_end x.cut (counted r w x.lines c) in
    let rest = counted_logs r next xs first in
    counted_more r next xs ys first
    ∙ ap (λ v. counted_logs r v ys rest)
    (sym (window_append w (events r x.lines) (events r (all_lines xs))) ∙ ap (λ e. window_after w e) (sym (events_append r x.lines (all_lines xs))))

pub logs_none : {A : Type 0} (x : PlainIntake A) (held : Option (List ℕ)) (failures : ℕ) → TakesLogs x x [] held held failures failures
logs_none x held failures = record { same = refl; window = refl; counts = refl; passes = passes_none x.waiting x.waits held failures }

logs_then : {A : Type 0} {x y z : PlainIntake A} {ls ms : List (LogLines A)} {h i j : Option (List ℕ)} {k l m : ℕ} →
    TakesLogs x y ls h i k l → TakesLogs y z ms i j l m → TakesLogs x z (ls ++ ms) h j k m
logs_then {A} {x} {y} {z} {ls} {ms} {h} {i} {j} {k} {l} {m} a b =
    let r = x.range in
    let first = events r (all_lines ls) in
    let second = events r (all_lines ms) in
    let all : events r (all_lines (ls ++ ms)) ≡ first ++ second = ap (events r) (lines_append ls ms) ∙ events_append r (all_lines ls) (all_lines ms) in
    let window = rw (a.same, a.window) at b.window in
    let counts = rw (a.same, a.window, a.counts) at b.counts in
    let passes = rw (a.same, a.window) at b.passes in record {
      same = b.same ∙ a.same;
      window = window ∙ sym (window_append x.window first second) ∙ ap (λ e. window_after x.window e) (sym all);
      counts = counts ∙ sym (counted_more r x.window ls ms x.counts);
      passes =
          passes_from (ap (λ g. x.waiting ++ g) (sym (given_append x.window first second) ∙ ap (λ e. given_out x.window e) (sym all)))
          (passes_then x.waiting (given_out x.window first) (given_out (window_after x.window first) second) a.passes passes);
    }

logs_are_more : {F A : Type 0} (remaining : F → Option (List ℕ)) (fs : List F) (f : F) (ls : List (LogLines A)) (l : LogLines A) → AreLogs remaining fs ls → IsLog (remaining f) l →
    AreLogs remaining (fs ++ f ∷ []) (ls ++ l ∷ [])
logs_are_more remaining [] f [] l a b = (b, tt)
logs_are_more remaining [] f (x ∷ xs) l a b = absurd a
logs_are_more remaining (g ∷ gs) f [] l a b = absurd a
logs_are_more remaining (g ∷ gs) f (x ∷ xs) l a b = (a.0, logs_are_more remaining gs f xs l a.1 b)

-- the files in front were taken in
pub record AreTaken {F A : Type 0} (remaining : F → Option (List ℕ)) (files rest : List F) (old new : PlainIntake A) (held holds : Option (List ℕ)) (before after place : ℕ) : Type 0 where
  pub front : List F
  pub logs : List (LogLines A)
  pub logs_are : AreLogs remaining front logs
  pub files_are : files ≡ front ++ rest
  pub place_is : place ≡ length front
  pub takes : TakesLogs old new logs held holds before after

pub none_taken : {F A : Type 0} (remaining : F → Option (List ℕ)) (files : List F) (x : PlainIntake A) (held : Option (List ℕ)) (failures : ℕ) →
    AreTaken remaining files files x x held held failures failures 0
none_taken remaining files x held failures = record { front = []; logs = []; logs_are = tt; files_are = refl; place_is = refl; takes = logs_none x held failures }

pub one_taken : {F A : Type 0} (remaining : F → Option (List ℕ)) (files all rest : List F) (file : F) (x y z : PlainIntake A) (h i j : Option (List ℕ)) (k l m place : ℕ) →
    all ≡ file ∷ rest → AreTaken remaining files all x y h i k l place → (log : LogLines A) × IsLog (remaining file) log × TakesLogs y z (log ∷ []) i j l m →
    AreTaken remaining files rest x z h j k m (place + 1)
one_taken remaining files all rest file x y z h i j k l m place e s (log, is, t) = record {
  front = s.front ++ file ∷ [];
  logs = s.logs ++ log ∷ [];
  logs_are = logs_are_more remaining s.front file s.logs log s.logs_are is;
  files_are = s.files_are ∙ ap (λ z. s.front ++ z) e ∙ sym (append_assoc s.front (file ∷ []) rest);
  place_is = omega (arith, s.place_is, length-append s.front (file ∷ []));
  takes = logs_then s.takes t;
}

pub all_taken : {F A : Type 0} (remaining : F → Option (List ℕ)) (files rest : List F) (x y : PlainIntake A) (h i : Option (List ℕ)) (k l place : ℕ) →
    rest ≡ [] → AreTaken remaining files rest x y h i k l place → (logs : List (LogLines A)) × AreLogs remaining files logs × TakesLogs x y logs h i k l
all_taken {F} {A} remaining files rest x y h i k l place e s =
    let all : files ≡ s.front = s.files_are ∙ ap (λ z. s.front ++ z) e ∙ append-nil s.front in
    (s.logs, subst (λ f. AreLogs remaining f s.logs) (sym all) s.logs_are, s.takes)

-- no write had failed before
spoils_later : (A : Type 0) (bytes : Option (List ℕ)) (k l m : ℕ) (e : IntakeFault) → l ≡ k → SpoilsBytes A bytes l m e → SpoilsBytes A bytes k m e
spoils_later A bytes k l m e same s = subst (λ n. SpoilsBytes A bytes n m e) same s

pub one_spoilt : {F A : Type 0} (remaining : F → Option (List ℕ)) (files all rest : List F) (file : F) (x y : PlainIntake A) (h i : Option (List ℕ)) (k l m place : ℕ) (e : IntakeFault) →
    all ≡ file ∷ rest → AreTaken remaining files all x y h i k l place → SpoilsBytes A (remaining file) l m e → IsSpoilt A remaining files k m place e
one_spoilt {F} {A} remaining files all rest file x y h i k l m place e is s why = record {
  front = s.front;
  logs = s.logs;
  logs_are = s.logs_are;
  file = file;
  behind = rest;
  files_are = s.files_are ∙ ap (λ z. s.front ++ z) is;
  place_is = s.place_is;
  spoils = spoils_later A (remaining file) k l m e s.takes.passes.sends.none_failed why;
}

-- ---- the script

ended_passes : {A : Type 0} (y z : PlainIntake A) (i j : Option (List ℕ)) (l m : ℕ) → Ends y z i j l m → Passes (y.waiting ++ held_in y.window) [] y.waits [] i j l m
ended_passes y z i j l m end = record {
  text = end.text;
  moves = end.moves;
  sends = record { sent = y.waits ++ end.text; appends = end.appends; same = sym (append-nil (y.waits ++ end.text)); none_failed = end.none_failed };
}

pub script_made : {F A : Type 0} (remaining : F → Option (List ℕ)) (files : List F) (x y z : PlainIntake A) (h i j : Option (List ℕ)) (k l m : ℕ) →
    (logs : List (LogLines A)) × AreLogs remaining files logs × TakesLogs x y logs h i k l → Ends y z i j l m → MakesScript remaining files x z h j k m
script_made {F} {A} remaining files x y z h i j k l m (logs, are, t) end =
    let made = events x.range (all_lines logs) in
    let last : Passes (y.waiting ++ held_in (window_after x.window made)) [] y.waits [] i j l m = rw t.window at (ended_passes y z i j l m end) in
    let all = passes_then x.waiting (given_out x.window made) (held_in (window_after x.window made)) t.passes last in record {
      logs = logs;
      logs_are = are;
      text = all.text;
      moves = all.moves;
      appends = sent_whole {t = all.text} all.sends;
      none_failed = all.sends.none_failed;
      counts = end.counts ∙ t.counts;
    }

pub stopped_behind : {F A : Type 0} (remaining : F → Option (List ℕ)) (files : List F) (x y : PlainIntake A) (h i j : Option (List ℕ)) (k l m : ℕ) (e : IntakeFault) →
    (logs : List (LogLines A)) × AreLogs remaining files logs × TakesLogs x y logs h i k l → StopsEnding y i j l m e → StopsBehind remaining files x k m e
stopped_behind remaining files x y h i j k l m e (logs, are, t) s = record {
  logs = logs;
  logs_are = are;
  stops = at_end y i j k l m (counted_logs x.range x.window logs x.counts) e t.counts t.passes.sends.none_failed s;
}
  where
    at_end : {A : Type 0} (y : PlainIntake A) (i j : Option (List ℕ)) (k l m : ℕ) (c : LineCounts) (e : IntakeFault) → y.counts ≡ c → l ≡ k → StopsEnding y i j l m e → StopsAtEnd k m c e
    at_end y i j k l m c faults.Memory n f s = tt
    at_end y i j k l m c faults.Read n f s = absurd s
    at_end y i j k l m c (faults.Line number fault) n f s = absurd s
    at_end y i j k l m c faults.TooLong n f s = absurd s
    at_end y i j k l m c faults.Write n f s = s ∙ ap one_more f
    at_end y i j k l m c faults.NoEvent n f s = (ap (λ z. z.asked) (sym n) ∙ s.0, s.2 ∙ f)
