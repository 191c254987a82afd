-- A line's text, piece by piece.
use Rattle.std.proofs.Common.{◌≡◌, ℕ, ◌+◌, ◌-◌, ◌<◌, ◌≤◌, true, false, List, [], ◌∷◌, ◌++◌, length, take, drop, Option, None, Some, IfSome, IfNone, refl, sym, ◌∙◌, ap, subst, arith, add-one, length-append, length-take, append_assoc, take_all, take-add}
use Rattle.std.proofs.Math.Seq.{take-append_seam, drop-append_seam}
use Rattle.memchr.specs.Find.{IsFirstByte, is_byte}
use Rattle.rev_script.specs.Script.{has_lf}
use Rattle.rev_script.specs.ByteReader.{PlainReader, Took, Broke, front}
use Rattle.rev_script.specs.RawLine.{IsText, IsPart, IsRest}
use Rattle.rev_script.specs.declared.byte_reader.LineFault.{LineFault}
use Rattle.rev_script.specs.declared.byte_reader.LineFault.TheVariants as faults
use Rattle.rev_script.proofs.Known.{Took-then, Took-memory}
use Rattle.rev_script.proofs.Data.{part_none, part_broke}
use Rattle.rev_script.proofs.Text.{no_lf, first_lf, has_lf-append, kept_more}
use Rattle.std.specs.Prelude.{◌≡◌, ℕ, false, List, length, take}

-- so far bytes without an LF were taken, and the first of them are kept
pub record IsSoFar (old new : PlainReader) (size : ℕ) (kept : List ℕ) : Type 0 where
  pub text : List ℕ
  pub no_lf : has_lf text ≡ false
  pub size_is : length text ≡ size
  pub kept_is : kept ≡ take 65537 text
  pub took : Took old new text

pub feed_some : (xs : List ℕ) (r : Option ℕ) → IsFirstByte (is_byte 10) xs r →
    IfSome r (λ i. (i < length xs) × (has_lf (take i xs) ≡ false) × (take (i + 1) xs ≡ take i xs ++ 10 ∷ []))
feed_some xs None h = tt
feed_some xs (Some i) h =
    let f = first_lf xs i h.0.high (λ k b e. h.0.before k (omega arith) b e) h.1 in
    (h.0.high, f.0, ap (λ n. take n xs) (add-one i) ∙ f.1)

pub feed_none : (xs : List ℕ) (r : Option ℕ) → IsFirstByte (is_byte 10) xs r → IfNone r (has_lf xs ≡ false)
feed_none xs None h = no_lf xs (λ k b e. h k (omega arith) b e)
feed_none xs (Some i) h = tt

pub kept_room : (most : ℕ) (old text : List ℕ) → length old ≤ most → old ++ take (most - length old) text ≡ take most (old ++ text)
kept_room most old text h =
    let e : most ≡ length old + (most - length old) = omega arith in
    sym (ap (λ k. take k (old ++ text)) e ∙ take-add (length old) (most - length old) (old ++ text)
    ∙ ap (λ t. t ++ take (most - length old) (drop (length old) (old ++ text))) (take-append_seam old text)
    ∙ ap (λ t. old ++ take (most - length old) t) (drop-append_seam old text))

pub kept_few : {old b : PlainReader} {size : ℕ} {kept : List ℕ} → IsSoFar old b size kept → length kept ≤ 65537
kept_few {old} {b} {size} {kept} s = omega (arith, ap (λ l. length l) s.kept_is, length-take 65537 s.text)

-- the line's LF stands in the piece
pub text_feed : {old b m new : PlainReader} {size : ℕ} {kept : List ℕ} (i : ℕ) (fr items : List ℕ) →
    IsSoFar old b size kept → Took b m [] → fr ≡ front m →
    (i < length fr) × (has_lf (take i fr) ≡ false) × (take (i + 1) fr ≡ take i fr ++ 10 ∷ []) →
    items ≡ take 65537 (kept ++ take i fr) → Took m new (take (i + 1) (front m)) →
    IsText old new (record { feed = true; length = size + i }) items
text_feed {old} {b} {m} {new} {size} {kept} i fr items s k is f it p =
    record {
      text = s.text ++ take i fr;
      no_lf = has_lf-append s.text (take i fr) s.no_lf ∙ f.1;
      size = omega (arith, length-append s.text (take i fr), length-take 65537 s.text, length-take i fr, s.size_is, f.0);
      kept_is = it ∙ kept_more 65537 s.text kept (take i fr) s.kept_is;
      took = subst (λ l. Took old new l) (ap (λ t. s.text ++ t) (ap (λ t. take (i + 1) t) (sym is) ∙ f.2) ∙ sym (append_assoc s.text (take i fr) (10 ∷ []))) (Took-then s.took (Took-then k p));
      at_end = λ e. absurd (cc);
    }

-- it does not
pub text_part : {old b m new : PlainReader} {size : ℕ} {kept : List ℕ} (fr items : List ℕ) →
    IsSoFar old b size kept → Took b m [] → fr ≡ front m → has_lf fr ≡ false →
    items ≡ take 65537 (kept ++ fr) → Took m new (take (length fr) (front m)) →
    IsSoFar old new (size + length fr) items
text_part {old} {b} {m} {new} {size} {kept} fr items s k is f it p =
    record {
      text = s.text ++ fr;
      no_lf = has_lf-append s.text fr s.no_lf ∙ f;
      size_is = omega (arith, length-append s.text fr, s.size_is);
      kept_is = it ∙ kept_more 65537 s.text kept fr s.kept_is;
      took = subst (λ l. Took old new l) (ap (λ t. s.text ++ t) (ap (λ t. take (length fr) t) (sym is) ∙ take_all (length fr) fr (omega arith))) (Took-then s.took (Took-then k p));
    }

pub text_stop : {old b m : PlainReader} {size : ℕ} {kept : List ℕ} {e : LineFault} → IsSoFar old b size kept → Broke b m [] e → IsPart old m e
text_stop s k = record { text = s.text; no_lf = s.no_lf; broke = part_broke s.took k }

pub text_memory : {old b m : PlainReader} {size : ℕ} {kept : List ℕ} → IsSoFar old b size kept → Took b m [] → IsPart old m faults.Memory
text_memory s k = record { text = s.text; no_lf = s.no_lf; broke = Took-memory (part_none s.took k) }

-- the rest of a line, piece by piece: its LF stands in the piece, or it does not
pub rest_feed : {old b m new : PlainReader} {text : List ℕ} (i : ℕ) (fr : List ℕ) → has_lf text ≡ false → Took old b text → Took b m [] → fr ≡ front m →
    (i < length fr) × (has_lf (take i fr) ≡ false) × (take (i + 1) fr ≡ take i fr ++ 10 ∷ []) → Took m new (take (i + 1) (front m)) → IsRest old new true
rest_feed {old} {b} {m} {new} {text} i fr n t k is f p = record {
  text = text ++ take i fr;
  no_lf = has_lf-append text (take i fr) n ∙ f.1;
  took = subst (λ l. Took old new l) (ap (λ t. text ++ t) (ap (λ t. take (i + 1) t) (sym is) ∙ f.2) ∙ sym (append_assoc text (take i fr) (10 ∷ []))) (Took-then t (Took-then k p));
  at_end = λ e. absurd (cc);
}

pub rest_part : {old b m new : PlainReader} {text : List ℕ} (fr : List ℕ) → has_lf text ≡ false → Took old b text → Took b m [] → fr ≡ front m → has_lf fr ≡ false →
    Took m new (take (length fr) (front m)) → (text : List ℕ) × (has_lf text ≡ false) × Took old new text
rest_part {old} {b} {m} {new} {text} fr n t k is f p = (
  text ++ fr,
  has_lf-append text fr n ∙ f,
  subst (λ l. Took old new l) (ap (λ t. text ++ t) (ap (λ t. take (length fr) t) (sym is) ∙ take_all (length fr) fr (omega arith))) (Took-then t (Took-then k p)),
)

-- a line whose LF stands in the piece, looked at where it lies
pub hand_size : (i : ℕ) (xs : List ℕ) → i < length xs → length (take i xs) ≡ i
hand_size i xs h = omega (arith, length-take i xs)

pub hand_took : {m new : PlainReader} (i : ℕ) →
    take (i + 1) (front m) ≡ take i (front m) ++ 10 ∷ [] → Took m new (take (i + 1) (front m)) → Took m new (take i (front m) ++ 10 ∷ [])
hand_took {m} {new} i e p = subst (λ l. Took m new l) e p

pub hand_fed : {End : Type 0} → true ≡ false → End
hand_fed e = absurd (cc)

abbrev pub text_at_hand : {m new : PlainReader} (i : ℕ) →
    (i < length (front m)) × (has_lf (take i (front m)) ≡ false) × (take (i + 1) (front m) ≡ take i (front m) ++ 10 ∷ []) →
    Took m new (take (i + 1) (front m)) →
    IsText m new (record { feed = true; length = i }) (take 65537 (take i (front m)))
text_at_hand {m} {new} i f p =
    record {
      text = take i (front m);
      no_lf = f.1;
      size = hand_size i (front m) f.0;
      kept_is = refl;
      took = hand_took i f.2 p;
      at_end = hand_fed;
    }
