-- Lines that lie whole in what was read of a script.
use Rattle.std.proofs.Common.{◌≡◌, ℕ, ◌+◌, ◌⊎◌, inl, inr, Bool, true, List, [], ◌∷◌, ◌++◌, length, map, cond, count_by, Option, None, Some, refl, sym, ◌∙◌, ap, subst, arith, append_assoc, append-nil}
use Rattle.std.proofs.lemmas.List.Sums.{sum_by-append}
use Rattle.std.specs.Io.KnownBytes.{Consumes, prepend_known}
use Rattle.rev_script.specs.ByteReader.{PlainReader, Took, Passed, AtEnd, IsEnded, ahead}
use Rattle.rev_script.specs.Script.{ScriptLine, Cut, onwards, cuts, lines, whole_lines, IsWhole, IsLast}
use Rattle.rev_script.specs.Line.{PlainInput, IsNext}
use Rattle.rev_script.specs.declared.dialect.Dialect.{Dialect}
use Rattle.rev_script.proofs.Scripts.{lines-last, lines-whole}
use Rattle.std.specs.Prelude.{◌≡◌, ◌⊎◌, ℕ, List, ◌++◌, length, map, Bool, true}

abbrev pub wholes : List ScriptLine → List Cut
wholes ls = map (λ l. record { line = l; whole = true }) ls

-- the bytes are these lines, whole, whatever follows them; behind them the rest of a line may have to be passed over
pub record AreWhole (d : Dialect) (passes : Bool) (read : List ℕ) (done : List ScriptLine) : Type 0 where
  pub cuts_are : (more : List ℕ) → cuts d (read ++ more) ≡ wholes done ++ cuts d (onwards passes more)

-- ---- lines that lie whole in front

plain_lines : (ls : List ScriptLine) (cs : List Cut) → map (λ c. c.line) (wholes ls ++ cs) ≡ ls ++ map (λ c. c.line) cs
plain_lines [] cs = refl
plain_lines (l ∷ ls) cs = ap (λ t. l ∷ t) (plain_lines ls cs)

count_wholes : (ls : List ScriptLine) (cs : List Cut) → count_by (λ c. c.whole) (wholes ls ++ cs) ≡ length ls + count_by (λ c. c.whole) cs
count_wholes [] cs = omega arith
count_wholes (l ∷ ls) cs =
    sum_by-append (λ c. cond c.whole 1 0) (record { line = l; whole = true } ∷ []) (wholes ls ++ cs)
    ∙ ap (λ n. 1 + n) (count_wholes ls cs) ∙ omega arith

wholes-more : (ls : List ScriptLine) (l : ScriptLine) (cs : List Cut) → wholes ls ++ (record { line = l; whole = true } ∷ cs) ≡ wholes (ls ++ l ∷ []) ++ cs
wholes-more [] l cs = refl
wholes-more (x ∷ xs) l cs = ap (λ t. record { line = x; whole = true } ∷ t) (wholes-more xs l cs)

pub lines-more : (d : Dialect) (passes : Bool) (read more : List ℕ) (done : List ScriptLine) → AreWhole d passes read done → lines d (read ++ more) ≡ done ++ lines d (onwards passes more)
unfolding lines
lines-more d passes read more done w = ap (λ t. map (λ c. c.line) t) (w.cuts_are more) ∙ plain_lines done (cuts d (onwards passes more))

pub whole_lines-more : (d : Dialect) (passes : Bool) (read more : List ℕ) (done : List ScriptLine) → AreWhole d passes read done → whole_lines d (read ++ more) ≡ length done + whole_lines d (onwards passes more)
unfolding whole_lines
whole_lines-more d passes read more done w = ap (λ t. count_by (λ c. c.whole) t) (w.cuts_are more) ∙ count_wholes done (cuts d (onwards passes more))

pub whole_then : (d : Dialect) (before after : Bool) (read taken : List ℕ) (done : List ScriptLine) (line : ScriptLine) → AreWhole d before read done → IsWhole d before after taken line →
    AreWhole d after (read ++ taken) (done ++ line ∷ [])
whole_then d before after read taken done line w n = record {
  cuts_are = λ more.
      ap (cuts d) (append_assoc read taken more) ∙ w.cuts_are (taken ++ more) ∙ ap (λ t. wholes done ++ t) (n.cut more) ∙ wholes-more done line (cuts d (onwards after more));
}

pub last_then : (d : Dialect) (before : Bool) (read taken : List ℕ) (done : List ScriptLine) (line : ScriptLine) → AreWhole d before read done → IsLast d before taken line →
    lines d (read ++ taken) ≡ done ++ line ∷ []
last_then d before read taken done line w n = lines-more d before read taken done w ∙ ap (λ t. done ++ t) (lines-last d before taken line n)

-- ---- what was read is what was taken, and the piece

from_reader : (before : Option (List ℕ)) (rest : Option (List ℕ)) (piece taken : List ℕ) → Consumes before (prepend_known piece rest) taken → Consumes before rest (taken ++ piece)
from_reader None rest piece taken p = tt
from_reader (Some xs) None piece taken p = absurd p
from_reader (Some xs) (Some ys) piece taken p = p ∙ sym (append_assoc taken piece ys)

pub plain_ahead : (piece : List ℕ) (rest : Option (List ℕ)) → piece ≡ [] → prepend_known piece rest ≡ rest
plain_ahead piece None e = refl
plain_ahead piece (Some ys) e = ap (λ t. Some (t ++ ys)) e

pub read_of : (start now : PlainReader) (taken : List ℕ) → start.unused ≡ [] → Passed start now taken →
    Consumes start.source.remaining now.source.remaining (taken ++ now.unused)
read_of start now taken e t =
    from_reader start.source.remaining now.source.remaining now.unused taken
    (subst (λ a. Consumes a (ahead now) taken) (plain_ahead start.unused start.source.remaining e) t.bytes)

-- what was read where nothing is left unused
pub read_all : (start now : PlainReader) (taken : List ℕ) → start.unused ≡ [] → now.unused ≡ [] → Passed start now taken →
    Consumes start.source.remaining now.source.remaining taken
read_all start now taken e n t =
    subst (λ l. Consumes start.source.remaining now.source.remaining l) (ap (λ l. taken ++ l) n ∙ append-nil taken) (read_of start now taken e t)

pub keep_all : (a : Option (List ℕ)) → Consumes a a []
keep_all None = tt
keep_all (Some xs) = refl

-- the next line, in the dialect of the run
pub in_dialect : {b c : PlainInput} {line : ScriptLine} (d : Dialect) → b.dialect ≡ d → (n : IsNext b c (Some line)) →
    IsWhole d b.passes c.passes n.0 line ⊎ (IsLast d b.passes n.0 line × AtEnd c.bytes)
in_dialect {b} {c} {line} d e n = subst (λ x. IsWhole x b.passes c.passes n.0 line ⊎ (IsLast x b.passes n.0 line × AtEnd c.bytes)) e n.3

-- no line, in the dialect of the run: where all lines lie whole in what was read, no byte behind them makes one
pub none_behind : {b : PlainInput} (c : PlainInput) (d : Dialect) (read : List ℕ) (done : List ScriptLine) → b.dialect ≡ d → AreWhole d b.passes read done → (n : IsNext b c None) → lines d (read ++ n.0) ≡ done
unfolding lines
none_behind {b} c d read done e w n =
    let none : cuts d (onwards b.passes n.0) ≡ [] = subst (λ x. cuts x (onwards b.passes n.0) ≡ []) e n.3 in
    lines-more d b.passes read n.0 done w ∙ ap (λ t. done ++ map (λ c. c.line) t) none ∙ append-nil done

-- the end of the input, behind lines that are done
pub record IsOver (d : Dialect) (b c : PlainReader) (read : List ℕ) (done : List ScriptLine) : Type 0 where
  pub taken : List ℕ
  pub took : Took b c taken
  pub lines_are : lines d (read ++ taken) ≡ done
  pub at_end : AtEnd c

pub over_now : {b : PlainInput} (c : PlainInput) (d : Dialect) (read : List ℕ) (done : List ScriptLine) → b.dialect ≡ d → AreWhole d b.passes read done ⊎ ((lines d read ≡ done) × AtEnd b.bytes) →
    (IsEnded b.bytes → Took b.bytes c.bytes []) → IsNext b c None → IsOver d b.bytes c.bytes read done
over_now c d read done e (inl w) stays n = record { taken = n.0; took = n.1; lines_are = none_behind c d read done e w n; at_end = n.4 }
over_now c d read done e (inr p) stays n = record { taken = []; took = stays p.1.ended; lines_are = ap (lines d) (append-nil read) ∙ p.0; at_end = n.4 }

-- the line stands behind those that are done
pub then_line : {b c : PlainInput} (d : Dialect) (read : List ℕ) (done : List ScriptLine) (line : ScriptLine) → b.dialect ≡ d → AreWhole d b.passes read done → (n : IsNext b c (Some line)) →
    (rest : List ScriptLine) × (lines d ((read ++ n.0) ++ c.bytes.unused) ≡ done ++ line ∷ rest)
then_line {b} {c} d read done line same w n = elim (in_dialect d same n) [
  | inl p ↦ (
    lines d (onwards c.passes c.bytes.unused),
    ap (lines d) (append_assoc read n.0 c.bytes.unused) ∙ lines-more d b.passes read (n.0 ++ c.bytes.unused) done w
        ∙ ap (λ t. done ++ t) (lines-whole d b.passes c.passes n.0 c.bytes.unused line p),
  )
  | inr p ↦ (
    [],
    ap (λ t. lines d ((read ++ n.0) ++ t)) p.1.ended.1 ∙ ap (lines d) (append-nil (read ++ n.0)) ∙ last_then d b.passes read n.0 done line w p.0,
  )
]
