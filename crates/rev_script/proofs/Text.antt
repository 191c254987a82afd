-- Bytes up to an LF.
use Rattle.std.proofs.Common.{◌≡◌, ℕ, ◌<◌, ◌≤◌, true, false, inl, inr, List, [], ◌∷◌, ◌++◌, length, take, refl, sym, ◌∙◌, ap, arith, length-append, take_all}
use Rattle.std.proofs.lemmas.List.{take-append-le, length-take-le}
use Rattle.std.proofs.lemmas.Bool.{ne_eqb}
use Rattle.std.proofs.lemmas.Bool.Decides.{eqb_tells, leb_tells}
use Rattle.std.proofs.Common.{suc, zero, slice_index, ◌==◌}
use Rattle.rev_script.proofs.Front.{take_front}
use Rattle.rev_script.specs.Script.{before_lf, after_lf, has_lf}

pub has_lf-append : (text more : List ℕ) → has_lf text ≡ false → has_lf (text ++ more) ≡ has_lf more
has_lf-append [] more h = refl
has_lf-append (x ∷ xs) more h = elim (eqb_tells x 10) [
  | inl p ↦ absurd (let q = rw p.0 at h in cc)
  | inr p ↦ rw p.0 (has_lf-append xs more (rw p.0 at h))
]

pub before_lf-append : (text more : List ℕ) → has_lf text ≡ false → before_lf (text ++ more) ≡ text ++ before_lf more
before_lf-append [] more h = refl
before_lf-append (x ∷ xs) more h = elim (eqb_tells x 10) [
  | inl p ↦ absurd (let q = rw p.0 at h in cc)
  | inr p ↦ rw p.0 (ap (λ t. x ∷ t) (before_lf-append xs more (rw p.0 at h)))
]

pub after_lf-append : (text more : List ℕ) → has_lf text ≡ false → after_lf (text ++ more) ≡ after_lf more
after_lf-append [] more h = refl
after_lf-append (x ∷ xs) more h = elim (eqb_tells x 10) [
  | inl p ↦ absurd (let q = rw p.0 at h in cc)
  | inr p ↦ rw p.0 (after_lf-append xs more (rw p.0 at h))
]

pub has_lf-one : (b : ℕ) → (b ≡ 10 → ⊥) → has_lf (b ∷ []) ≡ false
has_lf-one b h = rw (ne_eqb b 10 h)

pub has_lf-more : (text : List ℕ) (b : ℕ) → has_lf text ≡ false → (b ≡ 10 → ⊥) → has_lf (text ++ b ∷ []) ≡ false
has_lf-more text b h n = has_lf-append text (b ∷ []) h ∙ has_lf-one b n

pub take-more : (most : ℕ) (text kept : List ℕ) (b : ℕ) → kept ≡ take most text → length text < most → kept ++ b ∷ [] ≡ take most (text ++ b ∷ [])
take-more most text kept b k h =
    let small : length text ≤ most = omega arith in
    let fits : length (text ++ b ∷ []) ≤ most = omega (arith, length-append text (b ∷ [])) in
    ap (λ t. t ++ b ∷ []) (k ∙ take_all most text small) ∙ sym (take_all most (text ++ b ∷ []) fits)

pub take-enough : (most : ℕ) (text kept : List ℕ) (b : ℕ) → kept ≡ take most text → most ≤ length text → kept ≡ take most (text ++ b ∷ [])
take-enough most text kept b k h = k ∙ sym (take-append-le most text (b ∷ []) h)

pub length-after_lf : (bytes : List ℕ) → length (after_lf bytes) ≤ length bytes
length-after_lf [] = omega arith
length-after_lf (x ∷ xs) = elim (eqb_tells x 10) [
  | inl p ↦ rw p.0 (omega arith)
  | inr p ↦ rw p.0 (omega (arith, length-after_lf xs))
]

pub length-after_lf-cons : (x : ℕ) (xs : List ℕ) → length (after_lf (x ∷ xs)) ≤ length xs
length-after_lf-cons x xs = elim (eqb_tells x 10) [
  | inl p ↦ rw p.0 (omega arith)
  | inr p ↦ rw p.0 (omega (arith, length-after_lf xs))
]

-- ---- where the first LF stands

pub no_lf : (xs : List ℕ) → ((k : ℕ) → k < length xs → (slice_index xs k == 10) ≡ true → ⊥) → has_lf xs ≡ false
no_lf [] h = refl
no_lf (x ∷ xs) h = elim (eqb_tells x 10) [
  | inl p ↦ absurd (h 0 (omega arith) p.0)
  | inr p ↦ rw p.0 (no_lf xs (λ k b e. h (suc k) (omega arith) e))
]

pub first_lf : (xs : List ℕ) (i : ℕ) → i < length xs → ((k : ℕ) → k < i → (slice_index xs k == 10) ≡ true → ⊥) → (slice_index xs i == 10) ≡ true →
    (has_lf (take i xs) ≡ false) × (take (suc i) xs ≡ take i xs ++ 10 ∷ [])
first_lf [] i b h e = absurd (omega arith)
first_lf (x ∷ xs) zero b h e = elim (eqb_tells x 10) [
  | inl p ↦ (refl, ap (λ t. t ∷ []) p.1)
  | inr p ↦ absurd (let q = rw p.0 at e in cc)
]
first_lf (x ∷ xs) (suc i) b h e = elim (eqb_tells x 10) [
  | inl p ↦ absurd (h 0 (omega arith) p.0)
  | inr p ↦
      let r = first_lf xs i (omega arith) (λ k b e. h (suc k) (omega arith) e) e in
      (rw p.0 r.0, ap (λ t. x ∷ t) r.1)
]

-- what is kept of more text
pub kept_more : (most : ℕ) (text kept part : List ℕ) → kept ≡ take most text → take most (kept ++ part) ≡ take most (text ++ part)
kept_more most text kept part k = elim (leb_tells most (length text)) [
  | inl p ↦
      let e : length (take most text) ≡ most = length-take-le most text p.1 in
      ap (λ t. take most (t ++ part)) k ∙ take_front most (take most text) part e ∙ sym (take-append-le most text part p.1)
  | inr p ↦ ap (λ t. take most (t ++ part)) (k ∙ take_all most text (omega arith))
]
