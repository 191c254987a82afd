-- Parts of a script, a line more.
use Rattle.std.proofs.Common.{◌≡◌, ◌≤◌, ◌+◌, ℕ, List, [], ◌∷◌, ◌++◌, length, None, Some, refl, subst, ◌∙◌, arith, length-append}
use Rattle.rev_tree.specs.Steps.{Step}
use Rattle.rev_tree.specs.Positions.{SessionState}
use Rattle.rev_script.specs.Line.{PlainInput, IsNext}
use Rattle.rev_script.specs.Script.{ScriptLine}
use Rattle.rev_script.specs.Steps.{steps_of}
use Rattle.rev_script.proofs.Scripts.{all_steps-more}
use Rattle.rev_plays.specs.Kept.{Plays}
use Rattle.rev_plays.proofs.Tracing.{plays_more}
use Rattle.rev_rules.specs.Parts.{PartsState, Reads, IsPlayed, IsPart, IsOther, counted}
use Rattle.rev_rules.specs.declared.parts.PartEnd.TheVariants.{Whole, Full}

-- a line more was read
pub reads_more : (a b c : PlainInput) (ls : List ScriptLine) (line : ScriptLine) → Reads a ls b → IsNext b c (Some line) → Reads a (ls ++ line ∷ []) (counted c)
reads_more a b c [] line e n = (c, subst (λ x. IsNext x c (Some line)) e n, refl)
reads_more a b c (l ∷ ls) line r n = (r.0, r.1, reads_more (counted r.0) b c ls line r.2 n)

-- so far: these lines were read, and their steps were played
pub record IsSoFar (old : PartsState) (m : SessionState) (now : PlainInput) (t : SessionState) (number : ℕ) : Type 0 where
  pub read : List ScriptLine
  pub reads : Reads old.lines.input read now
  pub number_is : number ≡ old.count + length read
  pub played : IsPlayed read m t

pub at_start : (old : PartsState) (m : SessionState) → IsSoFar old m old.lines.input m old.count
at_start old m = record {
  read = [];
  reads = refl;
  number_is = omega arith;
  played = record { steps = []; steps_are = refl; plays = refl };
}

-- a line more
pub one_more : (old : PartsState) (m : SessionState) (b c : PlainInput) (s t : SessionState) (number : ℕ) (line : ScriptLine) (own : List Step) → IsSoFar old m b s number →
    IsNext b c (Some line) → steps_of line ≡ Some own → Plays s own t → IsSoFar old m (counted c) t (number + 1)
one_more old m b c s t number line own f n is plays = record {
  read = f.read ++ line ∷ [];
  reads = reads_more old.lines.input b c f.read line f.reads n;
  number_is = omega (arith, f.number_is, length-append f.read (line ∷ []));
  played = record {
    steps = f.played.steps ++ own;
    steps_are = all_steps-more f.read line f.played.steps own f.played.steps_are is;
    plays = plays_more m s t f.played.steps own f.played.plays plays;
  };
}

-- ---- how a part ends

pub full_part : (old new : PartsState) (m t : SessionState) (number : ℕ) → IsSoFar old m new.lines.input t number → new.count ≡ number → 983040 ≤ length t.rows → IsPart Full old new m t
full_part old new m t number f count many = record {
  read = f.read;
  now = new.lines.input;
  reads = f.reads;
  count_is = count ∙ f.number_is;
  played = f.played;
  ends = (refl, many);
}

pub whole_part : (old new : PartsState) (m t : SessionState) (b : PlainInput) (number : ℕ) → IsSoFar old m b t number → new.count ≡ number → IsNext b new.lines.input None → IsPart Whole old new m t
whole_part old new m t b number f count n = record {
  read = f.read;
  now = b;
  reads = f.reads;
  count_is = count ∙ f.number_is;
  played = f.played;
  ends = n;
}

pub other_part : (old new : PartsState) (m s : SessionState) (b c : PlainInput) (number : ℕ) (line : ScriptLine) → IsSoFar old m b s number → IsNext b c (Some line) → new.lines.input ≡ counted c → steps_of line ≡ None → IsOther (number + 1) old new
other_part old new m s b c number line f n is none = record {
  read = f.read;
  now = b;
  reads = f.reads;
  number_is = omega (arith, f.number_is);
  line = line;
  next = (c, n, is);
  none = none;
}
