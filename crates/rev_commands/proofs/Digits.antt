-- The value of digits, digit by digit.
use Rattle.std.proofs.Common.{◌≡◌, ℕ, ◌+◌, ◌-◌, ◌*◌, ◌^◌, ◌≤◌, ◌<◌, Bool, true, false, ◌&&◌, nat_le, nat_lt, cond, Option, None, Some, List, [], ◌∷◌, ◌++◌, length, take, drop, get_or, refl, sym, ◌∙◌, ap, arith, take_all}
use Rattle.std.proofs.Common.{◌⊎◌, inl, inr, subst}
use Rattle.std.proofs.lemmas.Bool.Decides.{nat_tests}
use Rattle.std.proofs.lemmas.List.{take_more, take-append-drop}
use Rattle.std.proofs.lemmas.List.Folds.{list_all_more, list_all_at}
use Rattle.std.specs.List.{list_all}
use Rattle.std.specs.Char.{is_ascii_digit}
use Rattle.rev_model.specs.Client.{is_digit, digits_from}
use Rattle.rev_commands.specs.Numbers.{number_in}

digits-append : (n : ℕ) (xs ys : List ℕ) → digits_from n (xs ++ ys) ≡ digits_from (digits_from n xs) ys
digits-append n [] ys = refl
digits-append n (x ∷ xs) ys = digits-append (10 * n + (x - 48)) xs ys

digits-least : (n : ℕ) (xs : List ℕ) → n ≤ digits_from n xs
digits-least n [] = omega arith
digits-least n (x ∷ xs) = omega (arith, digits-least (10 * n + (x - 48)) xs)

pub digits-more : (xs : List ℕ) (i : ℕ) → i < length xs → digits_from 0 (take (i + 1) xs) ≡ 10 * digits_from 0 (take i xs) + (get_or xs i 0 - 48)
digits-more xs i h = ap (digits_from 0) (take_more xs i 0 h) ∙ digits-append 0 (take i xs) (get_or xs i 0 ∷ [])

digits-take : (xs : List ℕ) (i : ℕ) → digits_from 0 (take i xs) ≤ digits_from 0 xs
digits-take xs i =
    let e : digits_from 0 xs ≡ digits_from (digits_from 0 (take i xs)) (drop i xs) = ap (digits_from 0) (sym (take-append-drop i xs)) ∙ digits-append 0 (take i xs) (drop i xs) in
    omega (arith, e, digits-least (digits_from 0 (take i xs)) (drop i xs))

choose-none : (a b c d : Bool) (x : Option ℕ) → (c ≡ false) ⊎ (d ≡ false) → None ≡ cond (a && (b && (c && d))) x None
choose-none false b c d x h = refl
choose-none true false c d x h = refl
choose-none true true false d x h = refl
choose-none true true true false x h = refl
choose-none true true true true x (inl e) = absurd (cc)
choose-none true true true true x (inr e) = absurd (cc)

choose-some : (a b c d : Bool) (x : Option ℕ) → a ≡ true → b ≡ true → c ≡ true → d ≡ true → x ≡ cond (a && (b && (c && d))) x None
choose-some a b c d x p q r s = rw (p, q, r, s)

pub number-bad : (xs : List ℕ) (i : ℕ) → i < length xs → is_digit (get_or xs i 0) ≡ false → None ≡ number_in xs
number-bad xs i h e = choose-none (nat_lt 0 (length xs)) (nat_le (length xs) 20) (list_all is_digit xs) (nat_lt (digits_from 0 xs) (2 ^ 64)) (Some (digits_from 0 xs)) (inl (list_all_at is_digit xs i 0 h e))

pub number-wide : (xs : List ℕ) (i : ℕ) → 2 ^ 64 ≤ digits_from 0 (take i xs) → None ≡ number_in xs
number-wide xs i h = choose-none (nat_lt 0 (length xs)) (nat_le (length xs) 20) (list_all is_digit xs) (nat_lt (digits_from 0 xs) (2 ^ 64)) (Some (digits_from 0 xs)) (inr (grind (arith, nat_tests, digits-take xs i)))

pub number-is : (xs : List ℕ) (i : ℕ) → i ≡ length xs → 0 < length xs → length xs ≤ 20 → list_all is_digit (take i xs) ≡ true → digits_from 0 (take i xs) < 2 ^ 64 → Some (digits_from 0 (take i xs)) ≡ number_in xs
number-is xs i e some few digits below =
    let t : take i xs ≡ xs = take_all i xs (omega arith) in
    let d : list_all is_digit xs ≡ true = ap (λ w. list_all is_digit w) (sym t) ∙ digits in
    let v : digits_from 0 xs < 2 ^ 64 = let P : List ℕ → Type 0 = λ w. digits_from 0 w < 2 ^ 64 in subst P t below in
    ap (λ w. Some (digits_from 0 w)) t ∙ choose-some (nat_lt 0 (length xs)) (nat_le (length xs) 20) (list_all is_digit xs) (nat_lt (digits_from 0 xs) (2 ^ 64)) (Some (digits_from 0 xs)) (grind (arith, nat_tests)) (grind (arith, nat_tests)) d (grind (arith, nat_tests))

pub digits_all-more : (xs : List ℕ) (i : ℕ) → i < length xs → list_all is_digit (take i xs) ≡ true → is_digit (get_or xs i 0) ≡ true → list_all is_digit (take (i + 1) xs) ≡ true
digits_all-more xs i h p q = list_all_more is_digit xs i 0 h ∙ rw (p, q)

-- a digit is what std takes for one
pub digit-yes : (b : ℕ) (r : Bool) → r ≡ is_ascii_digit b → r ≡ true → is_digit b ≡ true
digit-yes b r e h = sym e ∙ h

pub digit-no : (b : ℕ) (r : Bool) → r ≡ is_ascii_digit b → r ≡ false → is_digit b ≡ false
digit-no b r e h = sym e ∙ h
