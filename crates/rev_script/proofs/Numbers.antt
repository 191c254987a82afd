-- The value of digits, digit by digit.
use Rattle.std.proofs.Common.{◌≡◌, ℕ, ◌+◌, ◌-◌, ◌*◌, ◌^◌, ◌≤◌, ◌<◌, Bool, true, false, ◌&&◌, nat_le, nat_lt, cond, Option, None, Some, List, [], ◌∷◌, ◌++◌, length, take, drop, get_or, refl, sym, ◌∙◌, ap, arith, length-append}
use Rattle.std.proofs.lemmas.Nat.{pow-add}
use Rattle.std.proofs.lemmas.Bool.Decides.{nat_tests}
use Rattle.std.proofs.Common.{◌⊎◌, inl, inr, take_all, subst}
use Rattle.std.proofs.Math.Nat.{one-le-pow}
use Rattle.std.proofs.Common.{lit<}
use Rattle.std.proofs.lemmas.List.{take_more, take-append-drop}
use Rattle.std.proofs.lemmas.List.Folds.{list_all_more, list_all_at}
use Rattle.std.specs.List.{list_all}
use Rattle.rev_script.specs.Number.{value, is_digit, number}

pub value-append : (xs ys : List ℕ) → value (xs ++ ys) ≡ value xs * 10 ^ length ys + value ys
value-append [] ys = omega arith
value-append (x ∷ xs) ys =
    let e : 10 ^ length (xs ++ ys) ≡ 10 ^ length xs * 10 ^ length ys = ap (λ n. 10 ^ n) (length-append xs ys) ∙ pow-add 10 (length xs) (length ys) in
    let p : (x - 48) * 10 ^ length (xs ++ ys) ≡ (x - 48) * (10 ^ length xs * 10 ^ length ys) = ap (λ n. (x - 48) * n) e in
    omega (arith, value-append xs ys, p)

last_digit : (v d : ℕ) → v * 10 ^ 1 + ((d - 48) * 10 ^ 0 + 0) ≡ v * 10 + (d - 48)
last_digit v d = omega arith

pub value-more : (xs : List ℕ) (i : ℕ) → i < length xs → value (take (i + 1) xs) ≡ value (take i xs) * 10 + (get_or xs i 0 - 48)
value-more xs i h =
    ap value (take_more xs i 0 h) ∙ value-append (take i xs) (get_or xs i 0 ∷ []) ∙ last_digit (value (take i xs)) (get_or xs i 0)

at_least_itself : (v p : ℕ) → 0 < p → v ≤ v * p
at_least_itself v p h =
    let e : p ≡ (p - 1) + 1 = omega arith in
    let m : v * p ≡ v * ((p - 1) + 1) = ap (λ n. v * n) e in
    let k : v * ((p - 1) + 1) ≡ v * (p - 1) + v = omega arith in
    omega (arith, m, k)

pub value-take-le : (xs : List ℕ) (i : ℕ) → value (take i xs) ≤ value xs
value-take-le xs i =
    let e : value xs ≡ value (take i xs) * 10 ^ length (drop i xs) + value (drop i xs) =
    ap value (sym (take-append-drop i xs)) ∙ value-append (take i xs) (drop i xs) in
    let p : 0 < 10 ^ length (drop i xs) = omega (arith, one-le-pow (length (drop i xs)) 10 (lit< tt)) in
    omega (arith, e, at_least_itself (value (take i xs)) (10 ^ length (drop i xs)) p)

choose-none : (a b c : Bool) (x : Option ℕ) → (b ≡ false) ⊎ (c ≡ false) → cond ((a && b) && c) x None ≡ None
choose-none false b c x h = refl
choose-none true false c x h = refl
choose-none true true false x h = refl
choose-none true true true x (inl e) = absurd (cc)
choose-none true true true x (inr e) = absurd (cc)

choose-some : (a b c : Bool) (x : Option ℕ) → a ≡ true → b ≡ true → c ≡ true → cond ((a && b) && c) x None ≡ x
choose-some a b c x p q r = rw (p, q, r)

pub number-bad : (limit : ℕ) (word : List ℕ) (i : ℕ) → i < length word → is_digit (get_or word i 0) ≡ false → None ≡ number limit word
unfolding number
number-bad limit word i h e = sym (choose-none (nat_lt 0 (length word)) (list_all is_digit word) (nat_le (value word) limit) (Some (value word)) (inl (list_all_at is_digit word i 0 h e)))

pub number-over : (limit : ℕ) (word : List ℕ) (i : ℕ) → limit < value (take i word) → None ≡ number limit word
unfolding number
number-over limit word i h = sym (choose-none (nat_lt 0 (length word)) (list_all is_digit word) (nat_le (value word) limit) (Some (value word)) (inr (grind (arith, nat_tests, value-take-le word i))))

pub number-ok : (limit : ℕ) (word : List ℕ) (i : ℕ) → i ≡ length word → 0 < length word → list_all is_digit (take i word) ≡ true → value (take i word) ≤ limit → Some (value (take i word)) ≡ number limit word
unfolding number
number-ok limit word i e some digits below =
    let t : take i word ≡ word = take_all i word (omega arith) in
    let d : list_all is_digit word ≡ true = ap (λ w. list_all is_digit w) (sym t) ∙ digits in
    let v : value word ≤ limit = let P : List ℕ → Type 0 = λ w. value w ≤ limit in subst P t below in
    ap (λ w. Some (value w)) t ∙ sym (choose-some (nat_lt 0 (length word)) (list_all is_digit word) (nat_le (value word) limit) (Some (value word)) (grind (arith, nat_tests)) d (grind (arith, nat_tests)))

pub digits-more : (word : List ℕ) (i : ℕ) → i < length word → list_all is_digit (take i word) ≡ true → is_digit (get_or word i 0) ≡ true → list_all is_digit (take (i + 1) word) ≡ true
digits-more word i h p q = list_all_more is_digit word i 0 h ∙ rw (p, q)

pub is_digit-no : (b : ℕ) → (b < 48) ⊎ (57 < b) → is_digit b ≡ false
is_digit-no b h = grind (arith, nat_tests)

pub is_digit-yes : (b : ℕ) → 48 ≤ b → b ≤ 57 → is_digit b ≡ true
is_digit-yes b p q = grind (arith, nat_tests)
