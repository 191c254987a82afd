-- Lines that were taken in, one after another.
use Rattle.std.proofs.Common.{◌≡◌, ℕ, ◌<◌, ◌-◌, ◌^◌, true, false, List, [], ◌∷◌, ◌++◌, length, length-append, map, ◌+◌, Option, None, Some, Ok, append_assoc, append-nil, refl, sym, ◌∙◌, ap, subst, arith}
use Rattle.std.specs.Io.KnownBytes.{Consumes}
use Rattle.rev_script.proofs.Known.{Consumes-then, Consumes-Keeps}
use Rattle.rev_script.specs.Source.{Told}
use Rattle.rev_import.specs.Sample.{takes_event}
use Rattle.rev_watch.specs.Line.{line_of}
use Rattle.rev_watch.specs.Reader.{ahead, line_count, IsText, IsNext, Kept}
use Rattle.rev_watch.specs.Window.{PlainWindow, put_of, popped, pop_of}
use Rattle.rev_watch.specs.declared.event.Line.{Line}
use Rattle.rev_watch.specs.declared.event.Line.TheVariants.{Log}
use Rattle.rev_watch.specs.declared.window.Put.{Put}
use Rattle.rev_watch.specs.declared.event.LogLine.{LogLine}
use Rattle.rev_watch.specs.declared.reader.LogReader.{LogReader}
use Rattle.rev_watch.specs.declared.reader.NextLine.TheVariants.{Whole, CutOff}
use Rattle.rev_intake.specs.Counting.{more, counted, counted_put, counted_line, counted_end}
use Rattle.rev_intake.specs.Sending.{Passes}
use Rattle.rev_intake.specs.Events.{AreLogLines, is_asked, event, events, given_of, given_out, window_after, held_in}
use Rattle.rev_intake.specs.Intake.{PlainIntake, Rests, Takes, Reads, Ends}
use Rattle.rev_intake.specs.Logs.{TakesLog, TakesLogs}
use Rattle.rev_intake.specs.declared.counts.LineCounts.{LineCounts}
use Rattle.rev_intake.specs.declared.intake.Range.{Range}
use Rattle.rev_intake.proofs.Passing.{passes_none, passes_then, passes_from, sent_whole}

-- ---- lists

pub events_append : {A : Type 0} (r : Range) (ls ms : List (Line A)) → events r (ls ++ ms) ≡ events r ls ++ events r ms
events_append r [] ms = refl
events_append r (l ∷ ls) ms = ap (λ z. event r l ++ z) (events_append r ls ms) ∙ sym (append_assoc (event r l) (events r ls) (events r ms))

pub window_append : {T : Type 0} (w : PlainWindow T) (xs ys : List (ℕ × T)) → window_after w (xs ++ ys) ≡ window_after (window_after w xs) ys
window_append w [] ys = refl
window_append w (x ∷ xs) ys = window_append (put_of w x.0 x.1).0 xs ys

pub given_append : {T : Type 0} (w : PlainWindow T) (xs ys : List (ℕ × T)) → given_out w (xs ++ ys) ≡ given_out w xs ++ given_out (window_after w xs) ys
given_append w [] ys = refl
given_append w (x ∷ xs) ys =
    let next = put_of w x.0 x.1 in
    ap (λ z. given_of next.1 ++ z) (given_append next.0 xs ys)
    ∙ sym (append_assoc (given_of next.1) (given_out next.0 xs) (given_out (window_after next.0 xs) ys))

counted_append : {A : Type 0} (r : Range) (w : PlainWindow (LogLine A)) (ls ms : List (Line A)) (c : LineCounts) →
    counted r w (ls ++ ms) c ≡ counted r (window_after w (events r ls)) ms (counted r w ls c)
counted_append r w [] ms c = refl
counted_append r w (l ∷ ls) ms c =
    let next = window_after w (event r l) in
    let rest = counted r next ls (counted_line r w l c) in
    counted_append r next ls ms (counted_line r w l c)
    ∙ ap (λ v. counted r v ms rest) (sym (window_append w (event r l) (events r ls)))

-- ---- an intake

pub takes_none : {A : Type 0} (x : PlainIntake A) (held : Option (List ℕ)) (failures : ℕ) → Takes x x [] held held failures failures
takes_none x held failures = record { same = refl; window = refl; counts = refl; passes = passes_none x.waiting x.waits held failures }

pub takes_then : {A : Type 0} {x y z : PlainIntake A} {ls ms : List (Line A)} {h i j : Option (List ℕ)} {k l m : ℕ} →
    Takes x y ls h i k l → Takes y z ms i j l m → Takes x z (ls ++ ms) h j k m
takes_then {A} {x} {y} {z} {ls} {ms} {h} {i} {j} {k} {l} {m} a b =
    let all = events_append x.range ls ms in
    let first = events x.range ls in
    let window = rw (a.same, a.window) at b.window in
    let counts = rw (a.same, a.window, a.counts) at b.counts in
    let passes = rw (a.same, a.window) at b.passes in record {
      same = b.same ∙ a.same;
      window = window ∙ sym (window_append x.window first (events x.range ms)) ∙ ap (λ e. window_after x.window e) (sym all);
      counts = counts ∙ sym (counted_append x.range x.window ls ms x.counts);
      passes =
          passes_from
          (ap (λ g. x.waiting ++ g) (sym (given_append x.window first (events x.range ms)) ∙ ap (λ e. given_out x.window e) (sym all)))
          (passes_then x.waiting (given_out x.window first) (given_out (window_after x.window first) (events x.range ms)) a.passes passes);
    }

pub rests_then : {A : Type 0} {x y z : PlainIntake A} → Rests x y → Rests y z → Rests x z
rests_then a b = record { range = b.range ∙ a.range; window = b.window ∙ a.window; counts = b.counts ∙ a.counts }

-- a line without an event that is asked for
pub takes_no_event : {A : Type 0} (x y : PlainIntake A) (line : Line A) (held : Option (List ℕ)) (failures : ℕ) →
    event x.range line ≡ [] → y.range ≡ x.range → y.window ≡ x.window → y.waiting ≡ x.waiting → y.waits ≡ x.waits → y.counts ≡ counted_line x.range x.window line x.counts →
    Takes x y (line ∷ []) held held failures failures
takes_no_event x y line held failures none range window waiting waits counts = record {
  same = range;
  window = rw none window;
  counts = counts;
  passes = rw (none, waiting, waits) (passes_none x.waiting x.waits held failures);
}

-- an event that is not asked for
pub takes_left_out : {A : Type 0} (x y : PlainIntake A) (line : LogLine A) (held : Option (List ℕ)) (failures : ℕ) →
    is_asked x.range line.time.seconds ≡ false → y.range ≡ x.range → y.window ≡ x.window → y.waiting ≡ x.waiting → y.waits ≡ x.waits →
    y.counts ≡ record x.counts { lines = more x.counts.lines 1; left_out = more x.counts.left_out 1 } → Takes x y (Log line ∷ []) held held failures failures
takes_left_out x y line held failures late range window waiting waits counts = takes_no_event x y (Log line) held failures (rw late refl) range window waiting waits (rw late counts)

-- an event of a key that the sample does not take
pub takes_other_key : {A : Type 0} (x y : PlainIntake A) (line : LogLine A) (held : Option (List ℕ)) (failures : ℕ) →
    is_asked x.range line.time.seconds ≡ true → takes_event x.range.sample.one_of line.event ≡ false → y.range ≡ x.range → y.window ≡ x.window → y.waiting ≡ x.waiting →
    y.waits ≡ x.waits → y.counts ≡ record x.counts { lines = more x.counts.lines 1; other_keys = more x.counts.other_keys 1 } → Takes x y (Log line ∷ []) held held failures failures
takes_other_key x y line held failures asked other range window waiting waits counts =
    takes_no_event x y (Log line) held failures (rw (asked, other) refl) range window waiting waits (rw (asked, other) counts)

-- a line with one
pub takes_asked : {A : Type 0} (x y : PlainIntake A) (line : LogLine A) (h i : Option (List ℕ)) (k l : ℕ) →
    is_asked x.range line.time.seconds ≡ true → takes_event x.range.sample.one_of line.event ≡ true → y.range ≡ x.range → y.window ≡ (put_of x.window line.gid line).0 →
    y.counts ≡ counted_put (put_of x.window line.gid line).1 (record x.counts { lines = more x.counts.lines 1; asked = more x.counts.asked 1 }) →
    Passes (x.waiting ++ given_of (put_of x.window line.gid line).1) y.waiting x.waits y.waits h i k l → Takes x y (Log line ∷ []) h i k l
takes_asked x y line h i k l asked taken range window counts passes = record {
  same = range;
  window = rw (asked, taken) window;
  counts = rw (asked, taken) counts;
  passes = rw (asked, taken) (passes_from (ap (λ g. x.waiting ++ g) (sym (append-nil (given_of (put_of x.window line.gid line).1)))) passes);
}

-- nothing came out of the window
pub not_given : {A : Type 0} (x was : List (LogLine A)) (a had : List ℕ) (w v new : PlainWindow (LogLine A)) (gid : ℕ) (line : LogLine A) (p : Put (LogLine A)) (held : Option (List ℕ)) (failures : ℕ) →
    (new, p) ≡ put_of v gid line → v ≡ w → given_of p ≡ [] → was ≡ x → had ≡ a → Passes (x ++ given_of (put_of w gid line).1) was a had held held failures failures
not_given x was a had w v new gid line p held failures put e none f g =
    let given : given_of (put_of w gid line).1 ≡ [] = ap (λ u. given_of (put_of u gid line).1) (sym e) ∙ ap (λ q. given_of q.1) (sym put) ∙ none in
    rw (given, f, g) (passes_none x a held failures)

-- ---- a log

lines_then : {A : Type 0} (ls ms : List (Line A)) (b d : List ℕ) → AreLogLines ls b → AreLogLines ms d → AreLogLines (ls ++ ms) (b ++ d)
lines_then [] ms b d e y = subst (λ z. AreLogLines ms (z ++ d)) (sym e) y
lines_then (l ∷ ls) ms b d (text, behind, t, of, e, rest) y =
    (text, behind ++ d, t, of, ap (λ z. z ++ d) e ∙ append_assoc text (10 ∷ behind) d, lines_then ls ms behind d rest y)

keep_all : (a : Option (List ℕ)) → Consumes a a []
keep_all None = tt
keep_all (Some xs) = refl

pub reads_none : {S A : Type 0} (told : S → Told) (r : LogReader S) → Reads {S = S} {A = A} told r r []
reads_none told r = record { bytes = []; took = keep_all (ahead told r); lines_are = refl; count = omega arith }

-- one line more
pub reads_line : {S A : Type 0} (told : S → Told) (log r new : LogReader S) (ls : List (Line A)) (line : Line A) →
    Reads told log r ls → line_count r < 2 ^ 64 - 1 → IsNext told r new (Some (Whole line)) → Reads told log new (ls ++ line ∷ [])
reads_line told log r new ls line x few (text, t, of, took) = record {
  bytes = x.bytes ++ (text ++ 10 ∷ []);
  took = Consumes-then (ahead told log) (ahead told r) (ahead told new) x.bytes (text ++ 10 ∷ []) x.took took.bytes;
  lines_are = lines_then ls (line ∷ []) x.bytes (text ++ 10 ∷ []) x.lines_are (text, [], t, of, refl, refl);
  count = omega (arith, x.count, took.lines, few, length-append ls (line ∷ []));
}

-- nothing more was read
pub reads_kept : {S A : Type 0} (told : S → Told) (log r new : LogReader S) (ls : List (Line A)) → Reads told log r ls → Kept told r new → Reads told log new ls
reads_kept told log r new ls x k = record {
  bytes = x.bytes;
  took = Consumes-Keeps (ahead told log) (ahead told r) (ahead told new) x.bytes x.took k.bytes;
  lines_are = x.lines_are;
  count = k.lines ∙ x.count;
}

-- the last line was cut off
pub counted_cut : (text : List ℕ) (c : LineCounts) → 0 < length text → counted_end text c ≡ record c { lines = more c.lines 1; cut_off = more c.cut_off 1 }
counted_cut [] c h = absurd (omega (arith, h))
counted_cut (b ∷ bs) c h = refl

-- ---- a log so far

-- these lines were read and taken in
pub record IsSoFar {S A : Type 0} (told : S → Told) (log read : LogReader S) (old new : PlainIntake A) (held holds : Option (List ℕ)) (before after : ℕ) : Type 0 where
  pub lines : List (Line A)
  pub reads : Reads told log read lines
  pub takes : Takes old new lines held holds before after

pub nothing_yet : {S A : Type 0} (told : S → Told) (log : LogReader S) (x : PlainIntake A) (held : Option (List ℕ)) (failures : ℕ) → IsSoFar told log log x x held held failures failures
nothing_yet told log x held failures = record { lines = []; reads = reads_none told log; takes = takes_none x held failures }

-- one line more
pub line_more : {S A : Type 0} (told : S → Told) (log r new : LogReader S) (x y was z : PlainIntake A) (h i j : Option (List ℕ)) (k l m : ℕ) (line : Line A) → was ≡ y →
    line_count r < 2 ^ 64 - 1 → IsSoFar told log r x y h i k l → IsNext told r new (Some (Whole line)) → Takes was z (line ∷ []) i j l m → IsSoFar told log new x z h j k m
line_more told log r new x y was z h i j k l m line e few s n t = record {
  lines = s.lines ++ line ∷ [];
  reads = reads_line told log r new s.lines line s.reads few n;
  takes = takes_then s.takes (subst (λ w. Takes w z (line ∷ []) i j l m) e t);
}

-- one log alone
takes_alone : {A : Type 0} (x y : PlainIntake A) (lines : List (Line A)) (cut : List ℕ) (h i : Option (List ℕ)) (k l : ℕ) →
    y.range ≡ x.range → y.window ≡ window_after x.window (events x.range lines) → y.counts ≡ counted_end cut (counted x.range x.window lines x.counts) →
    Passes (x.waiting ++ given_out x.window (events x.range lines)) y.waiting x.waits y.waits h i k l → TakesLogs x y (record { lines = lines; cut = cut } ∷ []) h i k l
takes_alone x y lines cut h i k l range window counts passes =
    let all = append-nil lines in record {
      same = range;
      window = rw all window;
      counts = counts;
      passes = rw all passes;
    }

-- the log is over
pub log_over : {S A : Type 0} (told : S → Told) (log r new : LogReader S) (x y : PlainIntake A) (h i : Option (List ℕ)) (k l : ℕ) →
    IsSoFar told log r x y h i k l → IsNext {S = S} {A = A} told r new None → TakesLog told log new x y h i k l
log_over told log r new x y h i k l s n = record {
  says = record { lines = s.lines; cut = [] };
  whole = s.reads.bytes;
  lines_are = s.reads.lines_are;
  no_line = refl;
  took = Consumes-then (ahead told log) (ahead told r) (ahead told new) s.reads.bytes [] s.reads.took n.0.bytes;
  ended = n.1;
  takes = takes_alone x y s.lines [] h i k l s.takes.same s.takes.window s.takes.counts s.takes.passes;
}

-- it is over, and its last line was cut off
pub log_cut : {S A : Type 0} (told : S → Told) (log r new : LogReader S) (x y z : PlainIntake A) (h i : Option (List ℕ)) (k l : ℕ) →
    IsSoFar told log r x y h i k l → IsNext {S = S} {A = A} told r new (Some CutOff) → z.range ≡ y.range → z.window ≡ y.window → z.waiting ≡ y.waiting → z.waits ≡ y.waits →
    z.counts ≡ record y.counts { lines = more y.counts.lines 1; cut_off = more y.counts.cut_off 1 } → TakesLog told log new x z h i k l
log_cut {S} {A} told log r new x y z h i k l s (text, t, some, took, end) range window waiting waits counts =
    let passes : Passes (x.waiting ++ given_out x.window (events x.range s.lines)) z.waiting x.waits z.waits h i k l = rw (waiting, waits) s.takes.passes in
    let all : z.counts ≡ counted_end text (counted x.range x.window s.lines x.counts) = counts ∙ sym (counted_cut text y.counts some) ∙ ap (counted_end text) s.takes.counts in record {
      says = record { lines = s.lines; cut = text };
      whole = s.reads.bytes;
      lines_are = s.reads.lines_are;
      no_line = t.0;
      took = Consumes-then (ahead told log) (ahead told r) (ahead told new) s.reads.bytes text s.reads.took took.bytes;
      ended = end;
      takes = takes_alone x z s.lines text h i k l (range ∙ s.takes.same) (window ∙ s.takes.window) all passes;
    }

-- ---- the end

-- some of what was held was given out
pub record IsGiven {A : Type 0} (old new : PlainIntake A) (held holds : Option (List ℕ)) (before after : ℕ) : Type 0 where
  pub given : List (LogLine A)
  pub held_is : held_in old.window ≡ given ++ held_in new.window
  pub passes : Passes (old.waiting ++ given) new.waiting old.waits new.waits held holds before after
  pub counts : new.counts ≡ old.counts

pub none_given : {A : Type 0} (x : PlainIntake A) (held : Option (List ℕ)) (failures : ℕ) → IsGiven x x held held failures failures
none_given x held failures = record { given = []; held_is = refl; passes = passes_none x.waiting x.waits held failures; counts = refl }

-- what is held behind the first one
popped_held : {T : Type 0} (v w : PlainWindow T) (first : ℕ × T) → (w, Some first) ≡ pop_of v → held_in v ≡ first.1 ∷ held_in w
unfolding pop_of
popped_held v w first e = go v.held v w first refl e
  where
    go : {T : Type 0} (held : List (ℕ × T)) (v w : PlainWindow T) (first : ℕ × T) → v.held ≡ held → (w, Some first) ≡ popped held v → map (λ l. l.1) v.held ≡ first.1 ∷ held_in w
    go [] v w first h e = absurd (let q = ap (λ p. p.1) e in cc)
    go (x ∷ rest) v w first h e =
        let found : Some first ≡ Some x = ap (λ p. p.1) e in
        let left : w ≡ record { held = rest; last = Some x.0 } = ap (λ p. p.0) e in
        let one : first ≡ x = cc in
        rw (h, left, one) refl

-- nothing is held
pub nothing_held : {T : Type 0} (v w : PlainWindow T) → (w, None) ≡ pop_of v → held_in v ≡ []
unfolding pop_of
nothing_held v w e = go v.held v w refl e
  where
    go : {T : Type 0} (held : List (ℕ × T)) (v w : PlainWindow T) → v.held ≡ held → (w, None) ≡ popped held v → map (λ l. l.1) v.held ≡ []
    go [] v w h e = rw h refl
    go (first ∷ rest) v w h e = absurd (let q = ap (λ p. p.1) e in cc)

-- one more was given out, and taken in
pub given_more : {A : Type 0} (x y was z : PlainIntake A) (v : PlainWindow (LogLine A)) (first : ℕ × LogLine A) (h i j : Option (List ℕ)) (k l m : ℕ) → was ≡ y →
    IsGiven x y h i k l → (v, Some first) ≡ pop_of was.window → z.window ≡ v → z.counts ≡ was.counts → Passes (was.waiting ++ first.1 ∷ []) z.waiting was.waits z.waits i j l m →
    IsGiven x z h j k m
given_more {A} x y was z v first h i j k l m e s popped window counts passes =
    let line = first.1 in
    let next : Passes (y.waiting ++ line ∷ []) z.waiting y.waits z.waits i j l m = subst (λ w. Passes (w.waiting ++ line ∷ []) z.waiting w.waits z.waits i j l m) e passes in
    let before : held_in y.window ≡ line ∷ held_in v = ap (λ w. held_in w.window) (sym e) ∙ popped_held was.window v first popped in record {
      given = s.given ++ line ∷ [];
      held_is = s.held_is ∙ ap (λ z. s.given ++ z) (before ∙ ap (λ w. line ∷ held_in w) (sym window)) ∙ sym (append_assoc s.given (line ∷ []) (held_in z.window));
      passes = passes_then x.waiting s.given (line ∷ []) s.passes next;
      counts = counts ∙ ap (λ w. w.counts) e ∙ s.counts;
    }

-- all was
pub all_given : {A : Type 0} (x y was : PlainIntake A) (v : PlainWindow (LogLine A)) (h i : Option (List ℕ)) (k l : ℕ) → was ≡ y → IsGiven x y h i k l → (v, None) ≡ pop_of was.window →
    Passes (x.waiting ++ held_in x.window) was.waiting x.waits was.waits h i k l
all_given x y was v h i k l e s popped =
    let none : held_in y.window ≡ [] = ap (λ w. held_in w.window) (sym e) ∙ nothing_held was.window v popped in
    let all : held_in x.window ≡ s.given = s.held_is ∙ ap (λ z. s.given ++ z) none ∙ append-nil s.given in
    rw (all, e) s.passes

pub popped_length : {T : Type 0} (v w : PlainWindow T) (first : ℕ × T) → (w, Some first) ≡ pop_of v → length v.held ≡ length w.held + 1
unfolding pop_of
popped_length v w first e = go v.held v w first refl e
  where
    go : {T : Type 0} (held : List (ℕ × T)) (v w : PlainWindow T) (first : ℕ × T) → v.held ≡ held → (w, Some first) ≡ popped held v → length v.held ≡ length w.held + 1
    go [] v w first h e = absurd (let q = ap (λ p. p.1) e in cc)
    go (x ∷ rest) v w first h e =
        let left : w ≡ record { held = rest; last = Some x.0 } = ap (λ p. p.0) e in
        rw (h, left) (omega arith)

-- all that was held back became lines, and all was sent
pub log_ended : {A : Type 0} (was old new : PlainIntake A) (h q : Option (List ℕ)) (k n : ℕ) → was ≡ old → Passes (was.waiting ++ held_in was.window) [] was.waits [] h q k n →
    new.counts ≡ was.counts → Ends old new h q k n
log_ended was old new h q k n e p counts =
    let all : Passes (old.waiting ++ held_in old.window) [] old.waits [] h q k n = subst (λ w. Passes (w.waiting ++ held_in w.window) [] w.waits [] h q k n) e p in
    record { text = all.text; moves = all.moves; appends = sent_whole all.sends; none_failed = all.sends.none_failed; counts = counts ∙ ap (λ w. w.counts) e }
