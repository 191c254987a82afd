-- One line more of a script whose steps are played.
use Rattle.std.proofs.Common.{◌≡◌, ℕ, ◌+◌, ◌<◌, ◌≤◌, ◌⊎◌, inl, inr, List, [], ◌∷◌, ◌++◌, length, take, Option, None, Some, refl, sym, ◌∙◌, ap, subst, arith, length-append, append_assoc, append-nil, slice_get}
use Rattle.std.proofs.Math.Seq.{take-append_seam}
use Rattle.std.specs.Io.KnownBytes.{Consumes, IsAtEnd}
use Rattle.rev_model.specs.Actor.{Step}
use Rattle.rev_tree.specs.Positions.{SessionState}
use Rattle.rev_script.specs.ByteReader.{PlainReader, Passed, Took, AtEnd, IsEnded, ahead}
use Rattle.rev_script.specs.Script.{ScriptLine, onwards, cuts, lines, whole_lines}
use Rattle.rev_script.specs.Line.{PlainInput, IsNext, IsFault}
use Rattle.rev_script.specs.Lines.{PlainLines, IsFirst}
use Rattle.rev_script.specs.Source.{Told, told_by, one_more}
use Rattle.rev_script.specs.Steps.{steps_of, all_steps, AreSteps}
use Rattle.rev_script.specs.declared.dialect.Dialect.{Dialect}
use Rattle.rev_script.specs.declared.byte_reader.LineFault.{LineFault}
use Rattle.rev_script.specs.declared.byte_reader.LineFault.TheVariants as faults
use Rattle.rev_script.proofs.Cuts.{onwards-nil}
use Rattle.rev_script.proofs.Known.{Consumes-then}
use Rattle.rev_script.proofs.Scripts.{lines-nil, all_steps-more}
use Rattle.rev_plays.specs.Quiet.{trace_fault}
use Rattle.rev_plays.specs.Kept.{Plays, Fills, IsFilled, IsTraced}
use Rattle.rev_plays.specs.Traces.{IsThrough, IsCutOff, Because, StepsBefore}
use Rattle.rev_plays.specs.declared.quiet.TraceFault.{TraceFault}
use Rattle.rev_plays.specs.declared.quiet.TraceFault.TheVariants as traces
use Rattle.rev_plays.specs.declared.trace.TraceEnd.{TraceEnd}
use Rattle.rev_plays.specs.declared.trace.TraceEnd.TheVariants as ends
use Rattle.rev_plays.specs.Replies.{after_step}
use Rattle.rev_texts.proofs.Wholes.{AreWhole, lines-more, whole_lines-more, whole_then, last_then, plain_ahead, read_of, read_all, in_dialect, over_now, then_line}
use Rattle.std.specs.Prelude.{◌≡◌, ◌⊎◌, ℕ, List, ◌++◌, length, Some}

-- ---- bytes that were handed out, however they were counted

pub record Ran (a b : PlainReader) (read : List ℕ) : Type 0 where
  pub bytes : Consumes (ahead a) (ahead b) read
  pub same : b.source.identity ≡ a.source.identity
  pub steady : b.source.failures ≡ a.source.failures

pub Ran-took : {a b c : PlainReader} {xs ys : List ℕ} → Ran a b xs → Took b c ys → Ran a c (xs ++ ys)
Ran-took {a} {b} {c} {xs} {ys} r t = record {
  bytes = Consumes-then (ahead a) (ahead b) (ahead c) xs ys r.bytes t.passed.bytes;
  same = t.passed.same ∙ r.same;
  steady = t.steady ∙ r.steady;
}

keep_all : (a : Option (List ℕ)) → Consumes a a []
keep_all None = tt
keep_all (Some xs) = refl

-- nothing was taken yet
pub keep_ran : (a : PlainReader) → Ran a a []
keep_ran a = record { bytes = keep_all (ahead a); same = refl; steady = refl }

-- the same, as one that was counted from the beginning on
abbrev pub recounted : PlainReader → PlainReader → List ℕ → PlainReader
recounted a b read = record b { given = a.given + length read }

pub as_passed : (a b : PlainReader) (read : List ℕ) → Consumes (ahead a) (ahead b) read → b.source.identity ≡ a.source.identity → Passed a (recounted a b read) read
as_passed a b read bytes same = record { bytes = bytes; count = refl; same = same }

-- ---- within a script

-- so far: this is so of the steps of the lines of what was taken; these lie whole in it, or the input is at its end
pub record IsSoFar (d : Dialect) (start now : PlainInput) (P : List Step → Type 0) (count : ℕ) : Type 0 where
  pub done : List ScriptLine
  pub read : List ℕ
  pub ran : Ran start.bytes now.bytes read
  pub dialect_is : now.dialect ≡ d
  pub lines_are : AreWhole d now.passes read done ⊎ ((lines d read ≡ done) × AtEnd now.bytes)
  pub count_is : length done ≡ count
  pub steps : List Step
  pub steps_are : all_steps done ≡ Some steps
  pub so : P steps

-- at the first line
pub at_start : (l : PlainLines) (P : List Step → Type 0) → IsFirst l → P [] → IsSoFar l.input.dialect l.input l.input P 0
at_start l P first p = record {
  done = [];
  read = [];
  ran = keep_ran l.input.bytes;
  dialect_is = refl;
  lines_are = inl (record { cuts_are = λ more. ap (λ x. cuts l.input.dialect (onwards x.input.passes more)) (sym first) });
  count_is = refl;
  steps = [];
  steps_are = refl;
  so = p;
}

at_seam : (xs ys : List ScriptLine) (y : ScriptLine) → slice_get (xs ++ y ∷ ys) (length xs) ≡ Some y
at_seam [] ys y = refl
at_seam (x ∷ xs) ys y = at_seam xs ys y

pub still_whole : {d : Dialect} {start b : PlainInput} {P : List Step → Type 0} {count : ℕ} (f : IsSoFar d start b P count) → (AtEnd b.bytes → ⊥) → AreWhole d b.passes f.read f.done
still_whole f never = elim f.lines_are [
  | inl w ↦ w
  | inr p ↦ absurd (never p.1)
]

module _ (d : Dialect) (start b c : PlainInput) (P : List Step → Type 0) (count : ℕ) (fresh : start.bytes.unused ≡ []) (f : IsSoFar d start b P count) where
  -- the line was taken, and the bytes are counted anew behind it
  pub progress : (line : ScriptLine) (own : List Step) (Q : List Step → Type 0) → AreWhole d b.passes f.read f.done → IsNext b c (Some line) → steps_of line ≡ Some own →
      ((steps : List Step) → P steps → Q (steps ++ own)) → IsSoFar d start (record c { bytes = record c.bytes { given = 0 } }) Q (count + 1)
  progress line own Q w n is more =
      let ran = Ran-took f.ran n.1 in
      record {
        done = f.done ++ line ∷ [];
        read = f.read ++ n.0;
        ran = record { bytes = ran.bytes; same = ran.same; steady = ran.steady };
        dialect_is = n.2 ∙ f.dialect_is;
        lines_are = elim (in_dialect d f.dialect_is n) [
          | inl p ↦ inl (whole_then d b.passes c.passes f.read n.0 f.done line w p)
          | inr p ↦ inr (last_then d b.passes f.read n.0 f.done line w p.0, record { none_left = p.1.none_left; ended = p.1.ended })
        ];
        count_is = omega (arith, length-append f.done (line ∷ []), f.count_is);
        steps = f.steps ++ own;
        steps_are = all_steps-more f.done line f.steps own f.steps_are is;
        so = more f.steps f.so;
      }

  pub finished : (IsEnded b.bytes → Took b.bytes c.bytes []) → IsNext b c None → IsThrough d start.bytes.source c.bytes.source P
  finished stays n =
      let o = over_now c d f.read f.done f.dialect_is f.lines_are stays n in
      let ran = Ran-took f.ran o.took in
      record {
        read = f.read ++ o.taken;
        took = read_all start.bytes (recounted start.bytes c.bytes (f.read ++ o.taken)) (f.read ++ o.taken) fresh o.at_end.ended.1 (as_passed start.bytes c.bytes (f.read ++ o.taken) ran.bytes ran.same);
        none_left = subst (λ a. IsAtEnd a) (plain_ahead c.bytes.unused c.bytes.source.remaining o.at_end.ended.1) o.at_end.none_left;
        ended = o.at_end.ended.0;
        reads = ran.steady;
        steps = f.steps;
        steps_are = ap all_steps o.lines_are ∙ f.steps_are;
        so = f.so;
      }

  -- what was read, where these bytes behind the lines that are done were taken
  read_now : (taken : List ℕ) → Passed b.bytes c.bytes taken → Consumes start.bytes.source.remaining c.bytes.source.remaining ((f.read ++ taken) ++ c.bytes.unused)
  read_now taken p =
      read_of start.bytes (recounted start.bytes c.bytes (f.read ++ taken)) (f.read ++ taken) fresh
      (as_passed start.bytes c.bytes (f.read ++ taken) (Consumes-then (ahead start.bytes) (ahead b.bytes) (ahead c.bytes) f.read taken f.ran.bytes p.bytes) (p.same ∙ f.ran.same))

  -- the same where nothing is left unused
  read_whole : (taken : List ℕ) → c.bytes.unused ≡ [] → Passed b.bytes c.bytes taken → Consumes start.bytes.source.remaining c.bytes.source.remaining (f.read ++ taken)
  read_whole taken none p =
      read_all start.bytes (recounted start.bytes c.bytes (f.read ++ taken)) (f.read ++ taken) fresh none
      (as_passed start.bytes c.bytes (f.read ++ taken) (Consumes-then (ahead start.bytes) (ahead b.bytes) (ahead c.bytes) f.read taken f.ran.bytes p.bytes) (p.same ∙ f.ran.same))

  -- the lines done are the first of all bytes that begin with those taken for them
  first_done : (more : List ℕ) (j : ℕ) → AreWhole d b.passes f.read f.done → j ≡ length f.done → AreSteps (take j (lines d (f.read ++ more)))
  first_done more j w k = (
    f.steps,
    ap all_steps (ap (λ t. take t (lines d (f.read ++ more))) k ∙ ap (λ t. take (length f.done) t) (lines-more d b.passes f.read more f.done w)
        ∙ take-append_seam f.done (lines d (onwards b.passes more))) ∙ f.steps_are,
  )

  -- none of the bytes behind the lines that are done makes a whole line
  none_more : (more : List ℕ) → AreWhole d b.passes f.read f.done → whole_lines b.dialect (onwards b.passes more) ≡ 0 → whole_lines d (f.read ++ more) ≡ length f.done
  none_more more w e =
      let none : whole_lines d (onwards b.passes more) ≡ 0 = subst (λ x. whole_lines x (onwards b.passes more) ≡ 0) f.dialect_is e in
      omega (arith, whole_lines-more d b.passes f.read more f.done w, none)

  -- the lines done are all that lie in what was taken for them
  all_done : AreWhole d b.passes f.read f.done → lines d f.read ≡ f.done
  all_done w =
      ap (lines d) (sym (append-nil f.read)) ∙ lines-more d b.passes f.read [] f.done w
      ∙ ap (λ l. f.done ++ l) (ap (lines d) (onwards-nil b.passes) ∙ lines-nil d) ∙ append-nil f.done

  pub fault_now : (fault : LineFault) → b.bytes.given ≡ 0 → AreWhole d b.passes f.read f.done → IsFault b c fault → IsCutOff d start.bytes.source c.bytes.source (trace_fault fault)
  fault_now faults.Memory given w n = record {
    read = (f.read ++ n.0) ++ c.bytes.unused;
    took = read_now n.0 n.1.passed;
    because = tt;
  }
  fault_now faults.Read given w n = record {
    read = f.read ++ n.0;
    took = read_whole n.0 n.1.stopped.2 n.1.passed;
    because = (n.1.stopped.1, n.1.stopped.0 ∙ ap one_more f.ran.steady, first_done n.0 (whole_lines d (f.read ++ n.0)) w (none_more n.0 w (n.2 (λ e. cc e))));
  }
  fault_now faults.TooLong given w n =
      let size : length n.0 ≡ 4294967296 = omega (arith, n.1.passed.count, given, n.1.stopped.0) in
      record {
        read = (f.read ++ n.0) ++ c.bytes.unused;
        took = read_now n.0 n.1.passed;
        because = inl (
          n.0 ++ c.bytes.unused,
          omega (arith, length-append n.0 c.bytes.unused, size, n.1.stopped.1),
          record { front = f.read; read_is = append_assoc f.read n.0 c.bytes.unused; steps = (f.steps, ap all_steps (all_done w) ∙ f.steps_are) },
        );
      }

  -- no memory for the steps of a line
  pub memory_now : (line : ScriptLine) → IsNext b c (Some line) → IsCutOff d start.bytes.source c.bytes.source traces.Memory
  memory_now line n = record {
    read = (f.read ++ n.0) ++ c.bytes.unused;
    took = read_now n.0 n.1.passed;
    because = tt;
  }

  -- the line makes no step
  pub other_now : (line : ScriptLine) (number : ℕ) → number ≡ count + 1 → AreWhole d b.passes f.read f.done → IsNext b c (Some line) → steps_of line ≡ None → IsCutOff d start.bytes.source c.bytes.source (traces.NotAStep number)
  other_now line number is w n o =
      let r = then_line d f.read f.done line f.dialect_is w n in
      record {
        read = (f.read ++ n.0) ++ c.bytes.unused;
        took = read_now n.0 n.1.passed;
        because = (
          length f.done,
          line,
          omega (arith, is, f.count_is),
          ap (λ t. slice_get t (length f.done)) r.1 ∙ at_seam f.done r.0 line,
          o,
          (f.steps, ap all_steps (ap (λ t. take (length f.done) t) r.1 ∙ take-append_seam f.done (line ∷ r.0)) ∙ f.steps_are),
        );
      }

  -- a step of the line does not fit
  pub filled_now : (line : ScriptLine) (own : List Step) (number : ℕ) (m t : SessionState) → number ≡ count + 1 → AreWhole d b.passes f.read f.done → IsNext b c (Some line) →
      steps_of line ≡ Some own → Fills m (f.steps ++ own) t → IsFilled number d start.bytes.source c.bytes.source m t
  filled_now line own number m t is w n o fills =
      let r = then_line d f.read f.done line f.dialect_is w n in
      record {
        read = (f.read ++ n.0) ++ c.bytes.unused;
        took = read_now n.0 n.1.passed;
        full = record {
          before = length f.done;
          number_is = omega (arith, is, f.count_is);
          line = line;
          line_is = ap (λ t. slice_get t (length f.done)) r.1 ∙ at_seam f.done r.0 line;
          steps = f.steps;
          steps_are = ap all_steps (ap (λ t. take (length f.done) t) r.1 ∙ take-append_seam f.done (line ∷ r.0)) ∙ f.steps_are;
          own = own;
          own_are = o;
          fills = fills;
        };
      }

-- as many lines as can be counted
pub counted_now : (d : Dialect) (start b : PlainInput) (P : List Step → Type 0) (count : ℕ) (fresh : start.bytes.unused ≡ []) (f : IsSoFar d start b P count) → 18446744073709551615 ≤ count → IsCutOff d start.bytes.source b.bytes.source traces.TooLong
counted_now d start b P count fresh f many =
    let taken = as_passed start.bytes b.bytes f.read f.ran.bytes f.ran.same in
    elim f.lines_are [
      | inl w ↦
          let size = ap (λ l. length l) (lines-more d b.passes f.read b.bytes.unused f.done w) ∙ length-append f.done (lines d (onwards b.passes b.bytes.unused)) in
          record {
            read = f.read ++ b.bytes.unused;
            took = read_of start.bytes (recounted start.bytes b.bytes f.read) f.read fresh taken;
            because = inr (omega (arith, size, f.count_is, many));
          }
      | inr p ↦
          let size = ap (λ l. length l) p.0 in
          record {
            read = f.read;
            took = read_all start.bytes (recounted start.bytes b.bytes f.read) f.read fresh p.1.ended.1 taken;
            because = inr (omega (arith, size, f.count_is, many));
          }
    ]

-- ---- a source that is lent: it tells the same, but for which source it is

because_told : (e : TraceFault) (d : Dialect) (read : List ℕ) (a b : Told) (n m : ℕ) → Because e d read (told_by a n) (told_by b m) → Because e d read a b
because_told (traces.NotAStep line) d read a b n m p = p
because_told traces.Memory d read a b n m p = p
because_told traces.Read d read a b n m p = p
because_told traces.TooLong d read a b n m p = p

-- and what is so of the steps may be said otherwise
pub through_told : {d : Dialect} (P Q : List Step → Type 0) (a b : Told) (n m : ℕ) → IsThrough d (told_by a n) (told_by b m) P → ((steps : List Step) → P steps → Q steps) → IsThrough d a b Q
through_told P Q a b n m x more = record { read = x.read; took = x.took; none_left = x.none_left; ended = x.ended; reads = x.reads; steps = x.steps; steps_are = x.steps_are; so = more x.steps x.so }

pub cut_off_told : {d : Dialect} {e : TraceFault} (a b : Told) (n m : ℕ) → IsCutOff d (told_by a n) (told_by b m) e → IsCutOff d a b e
cut_off_told {d} {e} a b n m x = record { read = x.read; took = x.took; because = because_told e d x.read a b n m x.because }

-- how a trace went, said of the source itself
pub traced_told : (d : Dialect) (end : TraceEnd) (a b : Told) (n m : ℕ) (s t : SessionState) → IsTraced end d (told_by a n) (told_by b m) s t → IsTraced end d a b s t
traced_told d ends.Whole a b n m s t x = through_told (λ steps. Plays s steps t) (λ steps. Plays s steps t) a b n m x (λ steps p. p)
traced_told d (ends.Full line) a b n m s t x = record { read = x.read; took = x.took; full = x.full }

-- ---- steps, one behind another, whose nodes are kept

pub plays_more : (m u t : SessionState) (xs ys : List Step) → Plays m xs u → Plays u ys t → Plays m (xs ++ ys) t
plays_more m u t [] ys p q = subst (λ s. Plays s ys t) p q
plays_more m u t (x ∷ xs) ys p q = (p.0, plays_more (after_step m x) u t xs ys p.1 q)

pub fills_more : (m u t : SessionState) (xs ys : List Step) → Plays m xs u → Fills u ys t → Fills m (xs ++ ys) t
fills_more m u t [] ys p q = subst (λ s. Fills s ys t) p q
fills_more m u t (x ∷ xs) ys p q = inr (p.0, fills_more (after_step m x) u t xs ys p.1 q)
