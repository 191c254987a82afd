-- One line more of a script whose lines are steps.
use Rattle.std.proofs.Common.{◌≡◌, ℕ, ◌+◌, inl, inr, List, [], ◌∷◌, ◌++◌, length, take, None, Some, refl, ◌∙◌, ap, subst, arith, length-append, append_assoc, slice_get}
use Rattle.std.proofs.Math.Seq.{take-append_seam}
use Rattle.std.specs.Io.KnownBytes.{IsAtEnd}
use Rattle.rev_model.specs.Actor.{Step}
use Rattle.rev_script.specs.ByteReader.{Took, AtEnd, IsEnded}
use Rattle.rev_script.specs.Script.{ScriptLine, onwards, lines, whole_lines}
use Rattle.rev_script.specs.Line.{PlainInput, IsNext, IsFault}
use Rattle.rev_script.specs.Steps.{steps_of, all_steps, AreSteps}
use Rattle.rev_script.specs.declared.dialect.Dialect.{Dialect}
use Rattle.rev_script.specs.declared.byte_reader.LineFault.{LineFault}
use Rattle.rev_script.specs.declared.byte_reader.LineFault.TheVariants as faults
use Rattle.rev_script.proofs.Known.{Took-then, Took-broke}
use Rattle.rev_script.proofs.Front.{take_front}
use Rattle.rev_script.proofs.Scripts.{some_inj, parts_of, all_steps-more}
use Rattle.rev_texts.proofs.Wholes.{AreWhole, lines-more, whole_lines-more, whole_then, last_then, plain_ahead, read_of, read_all, in_dialect, over_now, then_line}
use Rattle.rev_script.specs.Source.{Told, told_by}
use Rattle.rev_recordings.specs.Steps.{Because, Adds, IsRead, IsRefused, script_fault}
use Rattle.rev_recordings.specs.declared.steps.ScriptFault.{ScriptFault}
use Rattle.rev_recordings.specs.declared.steps.ScriptFault.TheVariants as script
use Rattle.std.specs.Prelude.{◌≡◌, ◌⊎◌, ℕ, List, length, Some}
use Rattle.rev_model.specs.Actor as model

-- ---- within the reading

-- so far: the steps are those of the lines of what was taken; these lie whole in it, or the input is at its end
pub record IsSoFar (d : Dialect) (start now : PlainInput) (steps : List model.Step) (count : ℕ) : Type 0 where
  pub done : List ScriptLine
  pub read : List ℕ
  pub took : Took start.bytes now.bytes read
  pub dialect_is : now.dialect ≡ d
  pub lines_are : AreWhole d now.passes read done ⊎ ((lines d read ≡ done) × AtEnd now.bytes)
  pub count_is : length done ≡ count
  pub steps_are : all_steps done ≡ Some steps

-- the line behind so many
at_seam : (xs ys : List ScriptLine) (y : ScriptLine) → slice_get (xs ++ y ∷ ys) (length xs) ≡ Some y
at_seam [] ys y = refl
at_seam (x ∷ xs) ys y = at_seam xs ys y

pub still_whole : {d : Dialect} {start b : PlainInput} {steps : List Step} {count : ℕ} (f : IsSoFar d start b steps count) → (AtEnd b.bytes → ⊥) → AreWhole d b.passes f.read f.done
still_whole f never = elim f.lines_are [
  | inl w ↦ w
  | inr p ↦ absurd (never p.1)
]

module _ (d : Dialect) (start b c : PlainInput) (steps : List Step) (count : ℕ) (fresh : start.bytes.unused ≡ []) (none_given : start.bytes.given ≡ 0) (f : IsSoFar d start b steps count) where
  pub progress : (line : ScriptLine) (new : List Step) → AreWhole d b.passes f.read f.done → IsNext b c (Some line) → Adds steps new line → IsSoFar d start c new (count + 1)
  progress line new w n a = let p = parts_of (Some steps) (steps_of line) new a in record {
    done = f.done ++ line ∷ [];
    read = f.read ++ n.0;
    took = Took-then f.took n.1;
    dialect_is = n.2 ∙ f.dialect_is;
    lines_are = elim (in_dialect d f.dialect_is n) [
      | inl p ↦ inl (whole_then d b.passes c.passes f.read n.0 f.done line w p)
      | inr p ↦ inr (last_then d b.passes f.read n.0 f.done line w p.0, p.1)
    ];
    count_is = omega (arith, length-append f.done (line ∷ []), f.count_is);
    steps_are = all_steps-more f.done line steps p.1 f.steps_are p.3 ∙ ap (λ t. Some t) (ap (λ t. t ++ p.1) (some_inj steps p.0 p.2) ∙ p.4);
  }

  pub finished : (IsEnded b.bytes → Took b.bytes c.bytes []) → IsNext b c None → IsRead d start.bytes.source c.bytes.source steps
  finished stays n =
      let o = over_now c d f.read f.done f.dialect_is f.lines_are stays n in
      let took = Took-then f.took o.took in
      record {
        read = f.read ++ o.taken;
        took = read_all start.bytes c.bytes (f.read ++ o.taken) fresh o.at_end.ended.1 took.passed;
        none_left = subst (λ a. IsAtEnd a) (plain_ahead c.bytes.unused c.bytes.source.remaining o.at_end.ended.1) o.at_end.none_left;
        ended = o.at_end.ended.0;
        reads = took.steady;
        steps_are = ap all_steps o.lines_are ∙ f.steps_are;
      }

  -- the lines done are the first of all bytes that begin with those taken for them
  first_done : (more all : List ℕ) (j : ℕ) → AreWhole d b.passes f.read f.done → all ≡ f.read ++ more → j ≡ length f.done → AreSteps (take j (lines d all))
  first_done more all j w e k = (
    steps,
    ap all_steps (ap (λ t. take t (lines d all)) k ∙ ap (λ t. take (length f.done) (lines d t)) e ∙ ap (λ t. take (length f.done) t) (lines-more d b.passes f.read more f.done w)
        ∙ take-append_seam f.done (lines d (onwards b.passes more))) ∙ f.steps_are,
  )

  -- none of the bytes behind the lines that are done makes a whole line
  none_more : (more : List ℕ) → AreWhole d b.passes f.read f.done → whole_lines b.dialect (onwards b.passes more) ≡ 0 → whole_lines d (f.read ++ more) ≡ length f.done
  none_more more w e =
      let none : whole_lines d (onwards b.passes more) ≡ 0 = subst (λ x. whole_lines x (onwards b.passes more) ≡ 0) f.dialect_is e in
      omega (arith, whole_lines-more d b.passes f.read more f.done w, none)

  pub fault_now : (fault : LineFault) → AreWhole d b.passes f.read f.done → IsFault b c fault → IsRefused d start.bytes.source c.bytes.source (script_fault fault)
  fault_now faults.Memory w n = record {
    read = (f.read ++ n.0) ++ c.bytes.unused;
    took = read_of start.bytes c.bytes (f.read ++ n.0) fresh (Took-broke f.took n.1).passed;
    because = tt;
  }
  fault_now faults.Read w n =
      let both = Took-broke f.took n.1 in
      record {
        read = f.read ++ n.0;
        took = read_all start.bytes c.bytes (f.read ++ n.0) fresh both.stopped.2 both.passed;
        because = (both.stopped.1, both.stopped.0, first_done n.0 (f.read ++ n.0) (whole_lines d (f.read ++ n.0)) w refl (none_more n.0 w (n.2 (λ e. cc e))));
      }
  fault_now faults.TooLong w n =
      let both = Took-broke f.took n.1 in
      let size : length (f.read ++ n.0) ≡ 4294967296 = omega (arith, both.passed.count, none_given, both.stopped.0) in
      let front : take 4294967296 ((f.read ++ n.0) ++ c.bytes.unused) ≡ f.read ++ n.0 = take_front 4294967296 (f.read ++ n.0) c.bytes.unused size in
      record {
        read = (f.read ++ n.0) ++ c.bytes.unused;
        took = read_of start.bytes c.bytes (f.read ++ n.0) fresh both.passed;
        because = (
          omega (arith, length-append (f.read ++ n.0) c.bytes.unused, size, both.stopped.1),
          first_done (n.0 ++ c.bytes.unused) ((f.read ++ n.0) ++ c.bytes.unused) (whole_lines d (take 4294967296 ((f.read ++ n.0) ++ c.bytes.unused))) w (append_assoc f.read n.0 c.bytes.unused)
              (ap (whole_lines d) front ∙ none_more n.0 w (n.2 (λ e. cc e))),
        );
      }

  -- no memory for the steps of a line
  pub memory_now : (line : ScriptLine) → IsNext b c (Some line) → IsRefused d start.bytes.source c.bytes.source script.Memory
  memory_now line n = record {
    read = (f.read ++ n.0) ++ c.bytes.unused;
    took = read_of start.bytes c.bytes (f.read ++ n.0) fresh (Took-then f.took n.1).passed;
    because = tt;
  }

  -- the line makes no step
  pub other_now : (line : ScriptLine) (number : ℕ) → number ≡ count + 1 → AreWhole d b.passes f.read f.done → IsNext b c (Some line) → steps_of line ≡ None → IsRefused d start.bytes.source c.bytes.source (script.NotAStep number)
  other_now line number is w n o =
      let r = then_line d f.read f.done line f.dialect_is w n in
      record {
        read = (f.read ++ n.0) ++ c.bytes.unused;
        took = read_of start.bytes c.bytes (f.read ++ n.0) fresh (Took-then f.took n.1).passed;
        because = (
          length f.done,
          line,
          omega (arith, is, f.count_is),
          ap (λ t. slice_get t (length f.done)) r.1 ∙ at_seam f.done r.0 line,
          o,
          (steps, ap all_steps (ap (λ t. take (length f.done) t) r.1 ∙ take-append_seam f.done (line ∷ r.0)) ∙ f.steps_are),
        );
      }

-- ---- a source that is lent: it tells the same, but for which source it is

because_told : (e : ScriptFault) (d : Dialect) (read : List ℕ) (a b : Told) (n m : ℕ) → Because e d read (told_by a n) (told_by b m) → Because e d read a b
because_told (script.NotAStep line) d read a b n m p = p
because_told script.Memory d read a b n m p = p
because_told script.Read d read a b n m p = p
because_told script.TooLong d read a b n m p = p

pub read_told : {d : Dialect} {steps : List Step} (a b : Told) (n m : ℕ) → IsRead d (told_by a n) (told_by b m) steps → IsRead d a b steps
read_told a b n m x = record { read = x.read; took = x.took; none_left = x.none_left; ended = x.ended; reads = x.reads; steps_are = x.steps_are }

pub refused_told : {d : Dialect} {e : ScriptFault} (a b : Told) (n m : ℕ) → IsRefused d (told_by a n) (told_by b m) e → IsRefused d a b e
refused_told {d} {e} a b n m x = record { read = x.read; took = x.took; because = because_told e d x.read a b n m x.because }
