-- One line more of a script whose steps are kept.
use Rattle.std.proofs.Common.{◌≡◌, ℕ, ◌+◌, inl, inr, List, [], ◌∷◌, ◌++◌, length, take, slice_get, Option, None, Some, refl, sym, ◌∙◌, ap, arith}
use Rattle.std.proofs.Math.Seq.{take-append_seam}
use Rattle.std.specs.Io.KnownBytes.{Consumes}
use Rattle.rev_model.specs.Actor.{Step}
use Rattle.rev_script.specs.ByteReader.{Passed, ahead}
use Rattle.rev_script.specs.Script.{ScriptLine}
use Rattle.rev_script.specs.Line.{PlainInput, IsNext}
use Rattle.rev_script.specs.Source.{Told, told_by}
use Rattle.rev_script.specs.Steps.{steps_of, all_steps}
use Rattle.rev_script.specs.declared.dialect.Dialect.{Dialect}
use Rattle.rev_script.proofs.Known.{Consumes-then}
use Rattle.rev_texts.proofs.Wholes.{AreWhole, read_of, then_line}
use Rattle.rev_plays.specs.declared.trace.TraceEnd.{TraceEnd}
use Rattle.rev_plays.specs.declared.trace.TraceEnd.TheVariants as ends
use Rattle.rev_plays.proofs.Tracing.{IsSoFar, as_passed, recounted, through_told}
use Rattle.rev_rules.specs.Grown.{GrowingState, GoesOn, Fills, IsFilled, IsTaken}
use Rattle.rev_rules.proofs.Keeping.{goes_more}

at_seam : (xs ys : List ScriptLine) (y : ScriptLine) → slice_get (xs ++ y ∷ ys) (length xs) ≡ Some y
at_seam [] ys y = refl
at_seam (x ∷ xs) ys y = at_seam xs ys y

-- the tree has no room for a step of the line
pub full_now : (d : Dialect) (start b c : PlainInput) (m s t : GrowingState) (count : ℕ) (fresh : start.bytes.unused ≡ []) (f : IsSoFar d start b (λ steps. GoesOn m steps s) count) (line : ScriptLine) (own : List Step) (number : ℕ) →
    number ≡ count + 1 → AreWhole d b.passes f.read f.done → IsNext b c (Some line) → steps_of line ≡ Some own → Fills s own t → IsFilled number d start.bytes.source c.bytes.source m t
full_now d start b c m s t count fresh f line own number is w n o fills =
    let r = then_line d f.read f.done line f.dialect_is w n in
    record {
      read = (f.read ++ n.0) ++ c.bytes.unused;
      took =
          read_of start.bytes (recounted start.bytes c.bytes (f.read ++ n.0)) (f.read ++ n.0) fresh
          (as_passed start.bytes c.bytes (f.read ++ n.0) (Consumes-then (ahead start.bytes) (ahead b.bytes) (ahead c.bytes) f.read n.0 f.ran.bytes n.1.passed.bytes) (n.1.passed.same ∙ f.ran.same));
      full = record {
        before = length f.done;
        number_is = omega (arith, is, f.count_is);
        line = line;
        line_is = ap (λ t. slice_get t (length f.done)) r.1 ∙ at_seam f.done r.0 line;
        steps = f.steps;
        steps_are = ap all_steps (ap (λ t. take (length f.done) t) r.1 ∙ take-append_seam f.done (line ∷ r.0)) ∙ f.steps_are;
        own = own;
        own_are = o;
        fit = fills.fit;
        refused = fills.refused;
        more = fills.more;
        own_is = fills.steps_are;
        goes_on = goes_more m s t f.steps fills.fit f.so fills.goes_on;
        no_room = fills.no_room;
      };
    }

-- how a script went, said of the source itself
pub taken_told : (d : Dialect) (end : TraceEnd) (a b : Told) (n m : ℕ) (s t : GrowingState) → IsTaken end d (told_by a n) (told_by b m) s t → IsTaken end d a b s t
taken_told d ends.Whole a b n m s t x = through_told (λ steps. GoesOn s steps t) (λ steps. GoesOn s steps t) a b n m x (λ steps p. p)
taken_told d (ends.Full line) a b n m s t x = record { read = x.read; took = x.took; full = x.full }
