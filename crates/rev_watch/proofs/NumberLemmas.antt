-- Up to 19 digits fit 64 bits. Where a number ends, and that no sign stands in it.
use Rattle.std.proofs.Common.{◌≡◌, ℕ, ◌+◌, ◌*◌, ◌^◌, ◌<◌, ◌≤◌, ◌&&◌, nat_le, nat_lt, Bool, true, false, cond, None, Some, List, length, take, drop, get_or, inl, refl, sym, ◌∙◌, ap, arith, lit<, add-one}
use Rattle.std.proofs.Math.Nat.{pow-le-pow_right}
use Rattle.std.proofs.lemmas.Bool.Decides.{nat_tests}
use Rattle.std.proofs.lemmas.List.{length-take-le, take_all}
use Rattle.std.proofs.lemmas.Nat.{pow-add}
use Rattle.std.specs.List.{list_all}
use Rattle.rev_script.specs.Number.{number, value, is_digit, has, until, past}
use Rattle.rev_script.proofs.Each.{list_all-get_or}
use Rattle.rev_script.proofs.Numbers.{number-ok, is_digit-no}
use Rattle.rev_script.proofs.Places.{found_at, has_more}
use Rattle.rev_watch.proofs.WordLemmas.{none_has}

pub one_more : (sum digit i : ℕ) → sum < 10 ^ i → digit ≤ 9 → sum * 10 + digit < 10 ^ (i + 1)
one_more sum digit i h d =
    let step : 10 ^ (i + 1) ≡ 10 ^ i * 10 ^ 1 = pow-add 10 i 1 in
    omega (arith, step, h, d)

pub fits : (sum i : ℕ) → sum < 10 ^ i → i < 19 → sum * 10 + 9 < 10000000000000000000
fits sum i h l =
    let top : 10 ^ 19 ≡ 10000000000000000000 = refl in
    let few : i + 1 ≤ 19 = omega (arith, l) in
    let most : 10 ^ (i + 1) ≤ 10 ^ 19 = pow-le-pow_right {n = 10} (lit< tt) {i = i + 1} {j = 19} few in
    omega (arith, one_more sum 9 i h (omega arith), most, top)

-- a digit is not the sign behind a number
pub no_sign_more : (sign i : ℕ) (text : List ℕ) → sign < 48 → i < length text → has sign (take i text) ≡ false → 48 ≤ get_or text i 0 → has sign (take (i + 1) text) ≡ false
no_sign_more sign i text s h none digit =
    ap (λ n. has sign (take n text)) (add-one i) ∙ has_more sign text i none h (λ e. omega (arith, s, digit, e))

-- a number that a sign ends
pub ends_at : (sign limit i : ℕ) (text : List ℕ) → i < length text → (i ≡ 0 → ⊥) → get_or text i 0 ≡ sign → has sign (take i text) ≡ false → list_all is_digit (take i text) ≡ true → value (take i text) ≤ limit →
    (has sign text ≡ true) × (number limit (until sign text) ≡ Some (value (take i text))) × (drop (i + 1) text ≡ past sign text)
ends_at sign limit i text h some at none digits below =
    let f = found_at sign text i none h at in
    let long : length (take i text) ≡ i = length-take-le i text (omega (arith, h)) in
    let all : take i (take i text) ≡ take i text = take_all i (take i text) (omega (arith, long)) in
    let is : Some (value (take i (take i text))) ≡ number limit (take i text) =
    number-ok limit (take i text) i (sym long) (omega (arith, long, some)) (ap (list_all is_digit) all ∙ digits) (rw all below) in
    let within : nat_lt i (length text) ≡ true = grind (arith, nat_tests) in (
      f.0 ∙ within,
      ap (number limit) f.1 ∙ sym is ∙ ap (λ w. Some (value w)) all,
      sym f.2,
    )

some_digits : (a b c : Bool) (x v : ℕ) → cond ((a && b) && c) (Some x) None ≡ Some v → b ≡ true
some_digits true true c x v e = refl
some_digits true false c x v e = absurd (cc)
some_digits false b c x v e = absurd (cc)

pub are_digits : (limit : ℕ) (w : List ℕ) (n : ℕ) → number limit w ≡ Some n → list_all is_digit w ≡ true
unfolding number
are_digits limit w n e = some_digits (nat_lt 0 (length w)) (list_all is_digit w) (nat_le (value w) limit) (value w) n e

digit_is_no_sign : (b x : ℕ) → b < 48 → is_digit x ≡ true → x ≡ b → ⊥
digit_is_no_sign b x s d e = let no : is_digit x ≡ false = is_digit-no x (inl (omega (arith, s, e))) in absurd (cc)

-- in a number stands no sign
pub no_sign : (limit sign : ℕ) (w : List ℕ) (n : ℕ) → sign < 48 → number limit w ≡ Some n → has sign w ≡ false
no_sign limit sign w n s e = none_has sign w (λ k l at. digit_is_no_sign sign (get_or w k 0) s (list_all-get_or is_digit w k 0 l (are_digits limit w n e)) at)
