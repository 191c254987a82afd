-- A list read entry by entry, each behind the one before.
use Rattle.std.proofs.Common.{slice_get, ◌≡◌, ℕ, ◌+◌, ◌≤◌, Bool, true, false, cond, List, [], ◌∷◌, Option, None, Some, refl, ◌∙◌, ap, arith, inl, inr}
use Rattle.std.proofs.lemmas.Bool.{cases_Bool}
use Rattle.rev_model.specs.Lists.{has, count}
use Rattle.rev_inverse.specs.Reading.{next_after}

-- what stands behind an entry, or all where there is none
abbrev pub rest_after : {X : Type 0} → (X → X → Bool) → Option X → List X → List X
rest_after same None xs = xs
rest_after same (Some y) [] = []
rest_after same (Some y) (x ∷ xs) = cond (same y x) xs (rest_after same (Some y) xs)

pub next_after-rest : {X : Type 0} (same : X → X → Bool) (b : Option X) (xs : List X) → next_after same b xs ≡ slice_get (rest_after same b xs) 0
next_after-rest same None xs = refl
next_after-rest same (Some y) [] = refl
next_after-rest same (Some y) (x ∷ xs) = elim (cases_Bool (same y x)) [
  | inl e ↦ rw e refl
  | inr e ↦ rw e (next_after-rest same (Some y) xs)
]

-- the entry that is read next, with what is left behind it
pub head-rest : {X : Type 0} (xs : List X) (e : X) → slice_get xs 0 ≡ Some e → (r : List X) × (xs ≡ e ∷ r)
head-rest [] e h = absurd (cc)
head-rest (x ∷ xs) e h = (xs, let p : x ≡ e = cc in ap (λ z. z ∷ xs) p)

pub head-none : {X : Type 0} (xs : List X) → slice_get xs 0 ≡ None → xs ≡ []
head-none [] h = refl
head-none (x ∷ xs) h = absurd (cc)

module _ {X : Type 0} (same : X → X → Bool) (self : (x : X) → same x x ≡ true) where
  -- what is left was in the list
  within : (y : X) (xs : List X) (e : X) (r : List X) → rest_after same (Some y) xs ≡ e ∷ r → 1 ≤ count same e xs
  within y [] e r h = absurd (cc)
  within y (x ∷ xs) e r h = elim (cases_Bool (same y x)) [
    | inl t ↦
        let k : xs ≡ e ∷ r = rw t at h in
        let n : count same e xs ≡ 1 + count same e r = ap (count same e) k ∙ rw (self e) refl in
        omega (arith, n)
    | inr t ↦ let n = within y xs e r (rw t at h) in omega (arith, n)
  ]

  skips : (b : Bool) (xs ys : List X) (n : ℕ) → 1 ≤ n → cond b 1 0 + n ≤ 1 → cond b xs ys ≡ ys
  skips true xs ys n h k = absurd (omega (arith, h, k))
  skips false xs ys n h k = refl

  -- in a list where it stands once, what is left behind it
  pub rest-next : (b : Option X) (xs : List X) (e : X) (r : List X) → count same e xs ≤ 1 → rest_after same b xs ≡ e ∷ r → rest_after same (Some e) xs ≡ r
  rest-next None xs e r once h = rw h (rw (self e) refl)
  rest-next (Some y) [] e r once h = absurd (cc)
  rest-next (Some y) (x ∷ xs) e r once h = elim (cases_Bool (same y x)) [
    | inl t ↦
        let k : xs ≡ e ∷ r = rw t at h in
        let n : count same e xs ≡ 1 + count same e r = ap (count same e) k ∙ rw (self e) refl in
        skips (same e x) xs (rest_after same (Some e) xs) (count same e xs) (omega (arith, n)) once
        ∙ ap (rest_after same (Some e)) k ∙ rw (self e) refl
    | inr t ↦
        let w = within y xs e r (rw t at h) in
        skips (same e x) xs (rest_after same (Some e) xs) (count same e xs) w once
        ∙ rest-next (Some y) xs e r (omega (arith, once)) (rw t at h)
  ]

  -- it stands in the list
  pub rest-has : (b : Option X) (xs : List X) (e : X) (r : List X) → rest_after same b xs ≡ e ∷ r → has same e xs ≡ true
  rest-has None xs e r h = rw h (rw (self e) refl)
  rest-has (Some y) [] e r h = absurd (cc)
  rest-has (Some y) (x ∷ xs) e r h = elim (cases_Bool (same e x)) [
    | inl t ↦ rw t refl
    | inr t ↦ rw t (elim (cases_Bool (same y x)) [
      | inl u ↦ let k : xs ≡ e ∷ r = rw u at h in rw k (rw (self e) refl)
      | inr u ↦ rest-has (Some y) xs e r (rw u at h)
    ])
  ]
