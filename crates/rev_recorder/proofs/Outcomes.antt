-- Two outcomes are one just where `==` says so.
use Rattle.std.proofs.Common.{◌≡◌, inl, inr, ℕ, ◌==◌, ◌&&◌, Bool, true, false, List, [], ◌∷◌, refl, ap, ◌∙◌, arith}
use Rattle.std.proofs.lemmas.Bool.Decides.{nat_tests}
use denote.Struct.Field.{Field, u32-field, u64-field}
use denote.Struct.Values.{Values}
use denote.Enum.Declared.{Choice, values_one}
use denote.Enum.Compared.{Each, by}
use Rattle.rev_model.specs.declared.Outcome.{Outcome}
use Rattle.rev_model.specs.contracts.Outcome.{enum}
use Rattle.rev_model.specs.contracts.OutcomePartialEq.TheImpl.{eq-value}

-- each variant's test tells its values apart
abbrev Tells : (variants : List (List Field)) → Each Bool variants → Type 0
Tells [] tests = Unit {0}
Tells (fields ∷ variants) tests = ((x y : Values fields) → tests.0 x y ≡ true → x ≡ y) × ((x : Values fields) → tests.0 x x ≡ true) × Tells variants tests.1

same-by : (variants : List (List Field)) (tests : Each Bool variants) → Tells variants tests → (c d : Choice variants) → by false false variants tests c d ≡ true → c ≡ d
same-by [] tests tells c d e = absurd c
same-by (fields ∷ variants) tests tells (inl x) (inl y) e = ap inl (tells.0 x y e)
same-by (fields ∷ variants) tests tells (inl x) (inr y) e = absurd (let h : false ≡ true = e in cc)
same-by (fields ∷ variants) tests tells (inr x) (inl y) e = absurd (let h : false ≡ true = e in cc)
same-by (fields ∷ variants) tests tells (inr x) (inr y) e = ap inr (same-by variants tests.1 tells.2 x y e)

one-by : (variants : List (List Field)) (tests : Each Bool variants) → Tells variants tests → (c : Choice variants) → by false false variants tests c c ≡ true
one-by [] tests tells c = absurd c
one-by (fields ∷ variants) tests tells (inl x) = tells.1 x
one-by (fields ∷ variants) tests tells (inr x) = one-by variants tests.1 tells.2 x

hit-same : (x y : Values (u32-field ∷ u64-field ∷ [])) → ((x.0 == y.0) && (x.1.0 == y.1.0)) ≡ true → x ≡ y
hit-same x y e =
    let first : x.0 ≡ y.0 = grind (arith, nat_tests) in
    let second : x.1.0 ≡ y.1.0 = grind (arith, nat_tests) in
    let pair : ℕ → ℕ → Values (u32-field ∷ u64-field ∷ []) = λ a b. (a, (b, tt)) in
    ap (λ (a : ℕ). pair a x.1.0) first ∙ ap (λ (b : ℕ). pair y.0 b) second

hit-one : (x : Values (u32-field ∷ u64-field ∷ [])) → ((x.0 == x.0) && (x.1.0 == x.1.0)) ≡ true
hit-one x = grind (arith, nat_tests)

number-same : (x y : Values (u64-field ∷ [])) → (x.0 == y.0) ≡ true → x ≡ y
number-same x y e =
    let first : x.0 ≡ y.0 = grind (arith, nat_tests) in
    let single : ℕ → Values (u64-field ∷ []) = λ a. (a, tt) in
    ap (λ (a : ℕ). single a) first

number-one : (x : Values (u64-field ∷ [])) → (x.0 == x.0) ≡ true
number-one x = grind (arith, nat_tests)

pub same-true : (a b : Outcome) → eq-value.it a b ≡ true → a ≡ b
same-true a b e = values_one enum a b (same-by enum.parts _ (λ x y e. refl, λ x. refl, (λ x y e. refl, λ x. refl, (λ x y e. refl, λ x. refl, (λ x y e. refl, λ x. refl, (λ x y e. refl, λ x. refl, (λ x y e. refl, λ x. refl, (λ x y e. refl, λ x. refl, (λ x y e. hit-same x y e, λ x. hit-one x, (λ x y e. refl, λ x. refl, (λ x y e. refl, λ x. refl, (λ x y e. refl, λ x. refl, (λ x y e. refl, λ x. refl, (λ x y e. refl, λ x. refl, (λ x y e. refl, λ x. refl, (λ x y e. refl, λ x. refl, (λ x y e. refl, λ x. refl, (λ x y e. refl, λ x. refl, (λ x y e. refl, λ x. refl, (λ x y e. refl, λ x. refl, (λ x y e. refl, λ x. refl, (λ x y e. refl, λ x. refl, (λ x y e. refl, λ x. refl, (λ x y e. refl, λ x. refl, (λ x y e. refl, λ x. refl, (λ x y e. number-same x y e, λ x. number-one x, (λ x y e. refl, λ x. refl, tt)))))))))))))))))))))))))) (enum.as_values a) (enum.as_values b) e)

pub true-same : (a : Outcome) → eq-value.it a a ≡ true
true-same a = one-by enum.parts _ (λ x y e. refl, λ x. refl, (λ x y e. refl, λ x. refl, (λ x y e. refl, λ x. refl, (λ x y e. refl, λ x. refl, (λ x y e. refl, λ x. refl, (λ x y e. refl, λ x. refl, (λ x y e. refl, λ x. refl, (λ x y e. hit-same x y e, λ x. hit-one x, (λ x y e. refl, λ x. refl, (λ x y e. refl, λ x. refl, (λ x y e. refl, λ x. refl, (λ x y e. refl, λ x. refl, (λ x y e. refl, λ x. refl, (λ x y e. refl, λ x. refl, (λ x y e. refl, λ x. refl, (λ x y e. refl, λ x. refl, (λ x y e. refl, λ x. refl, (λ x y e. refl, λ x. refl, (λ x y e. refl, λ x. refl, (λ x y e. refl, λ x. refl, (λ x y e. refl, λ x. refl, (λ x y e. refl, λ x. refl, (λ x y e. refl, λ x. refl, (λ x y e. refl, λ x. refl, (λ x y e. number-same x y e, λ x. number-one x, (λ x y e. refl, λ x. refl, tt)))))))))))))))))))))))))) (enum.as_values a)
