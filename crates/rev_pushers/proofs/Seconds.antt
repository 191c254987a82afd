-- Seconds with decimals are a number of JSON.
use Rattle.std.proofs.Common.{◌≡◌, ℕ, ◌+◌, ◌^◌, ◌<◌, ◌≤◌, ◌/◌, ◌%◌, zero, suc, false, cond, ◌==◌, List, [], ◌∷◌, ◌++◌, length, drop, get_or, Some, None, option_and_then, decimal, refl, sym, ap, ◌∙◌, subst, arith, append-nil, length-append}
use Rattle.std.proofs.lemmas.Bool.{ne_eqb, le-leb, and_from}
use Rattle.std.proofs.lemmas.Grind.{common_steps}
use Rattle.std.proofs.lemmas.List.{drop_at}
use Rattle.std.proofs.lemmas.Fmt.{decimal_is_IsNumeral, decimal_digit, first_decimal}
use Rattle.std.specs.List.{prefix_len}
use Rattle.std.specs.Char.{is_ascii_digit, digit_value}
use Rattle.std.specs.Str.Parse.{AllDigits}
use Rattle.json.specs.Word.{head, after_digits, after_whole, after_fraction, after_exponent, after_number}
use Rattle.json.specs.Print.{IsNumber}
use Rattle.rev_pushers.specs.Times.{front_text, back_text, seconds_text}

digit_range : (d : ℕ) → digit_value d < 10 → (48 ≤ d) × (d ≤ 57)
digit_range d h = grind arith

run : (ds r : List ℕ) → AllDigits 10 ds → prefix_len is_ascii_digit r ≡ 0 → prefix_len is_ascii_digit (ds ++ r) ≡ length ds
run [] r h none = none
run (d ∷ ds) r h none =
    let range = digit_range d h.0 in
    ap (λ b. cond b (1 + prefix_len is_ascii_digit (ds ++ r)) 0) (and_from _ _ (le-leb 48 d range.0) (le-leb d 57 range.1)) ∙ omega (arith, run ds r h.1 none)

digits_then : (ds r : List ℕ) → AllDigits 10 ds → 0 < length ds → prefix_len is_ascii_digit r ≡ 0 → after_digits (ds ++ r) ≡ Some r
digits_then ds r h some none =
    ap (λ n. cond (n == 0) None (Some (drop n (ds ++ r)))) (run ds r h none) ∙ ap (λ b. cond b None (Some (drop (length ds) (ds ++ r)))) (ne_eqb (length ds) 0 (λ e. omega arith))
    ∙ ap Some (drop_at ds r _ refl)

-- of digits of which the first is no 0
whole_then : (w r : List ℕ) → AllDigits 10 w → 48 < get_or w 0 0 → prefix_len is_ascii_digit r ≡ 0 → (after_whole (w ++ r) ≡ Some r) × ((head (w ++ r) == 45) ≡ false)
whole_then [] r h some none = absurd (omega arith)
whole_then (d ∷ ds) r h some none = (
  ap (λ b. cond b (Some (ds ++ r)) (after_digits (d ∷ ds ++ r))) (ne_eqb d 48 (λ e. omega arith)) ∙ digits_then (d ∷ ds) r h (omega arith) none,
  ne_eqb d 45 (λ e. omega arith),
)

-- of the digits of any number
decimal_then : (n : ℕ) → n < 2 ^ 64 → (r : List ℕ) → prefix_len is_ascii_digit r ≡ 0 → (after_whole (decimal n ++ r) ≡ Some r) × ((head (decimal n ++ r) == 45) ≡ false)
decimal_then zero h r none = let e = decimal_digit 0 (omega arith) in (ap (λ l. after_whole (l ++ r)) e, ap (λ l. head (l ++ r) == 45) e)
decimal_then (suc n) h r none = whole_then (decimal (suc n)) r (decimal_is_IsNumeral (suc n) h).0.1 (first_decimal (suc n) (omega arith) h) none

all-append : (xs ys : List ℕ) → AllDigits 10 xs → AllDigits 10 ys → AllDigits 10 (xs ++ ys)
all-append [] ys a b = b
all-append (x ∷ xs) ys a b = (a.0, all-append xs ys a.1 b)

-- digits, one or more
abbrev Some_digits : List ℕ → Type 0
Some_digits ds = AllDigits 10 ds × (0 < length ds)

both : (xs ys : List ℕ) → Some_digits xs → Some_digits ys → Some_digits (xs ++ ys)
both xs ys a b = (all-append xs ys a.0 b.0, omega (arith, length-append xs ys, a.1, b.1))

one : (n : ℕ) → n < 2 ^ 64 → Some_digits (decimal n)
one n h = let d = (decimal_is_IsNumeral n h).0 in (d.1, d.0)

fraction_digits : (n : ℕ) → n < 2 ^ 64 → Some_digits (front_text n ++ back_text n)
fraction_digits n h =
    both (front_text n) (back_text n)
    (both _ _ (both _ _ (one (n / 100000 % 10) (grind (arith, common_steps))) (one (n / 10000 % 10) (grind (arith, common_steps)))) (one (n / 1000 % 10) (grind (arith, common_steps))))
    (both _ _ (both _ _ (one (n / 100 % 10) (grind (arith, common_steps))) (one (n / 10 % 10) (grind (arith, common_steps)))) (one (n % 10) (grind (arith, common_steps))))

regroup : (a f b : List ℕ) → ((a ++ 46 ∷ []) ++ f) ++ b ≡ a ++ 46 ∷ (f ++ b)
regroup [] f b = refl
regroup (x ∷ a) f b = ap (λ l. x ∷ l) (regroup a f b)

number_of : (whole fraction : List ℕ) → (after_whole (whole ++ 46 ∷ fraction) ≡ Some (46 ∷ fraction)) × ((head (whole ++ 46 ∷ fraction) == 45) ≡ false) → Some_digits fraction → IsNumber (whole ++ 46 ∷ fraction)
unfolding after_number
number_of whole fraction w d =
    ap (λ b. option_and_then after_exponent (option_and_then after_fraction (after_whole (cond b (drop 1 (whole ++ 46 ∷ fraction)) (whole ++ 46 ∷ fraction))))) w.1
    ∙ ap (λ o. option_and_then after_exponent (option_and_then after_fraction o)) w.0
    ∙ ap (option_and_then after_exponent) (ap after_digits (sym (append-nil fraction)) ∙ digits_then fraction [] d.0 d.1 refl)

pub IsNumber-seconds : (n : ℕ) → n < 2 ^ 64 → IsNumber (seconds_text n)
IsNumber-seconds n h =
    subst IsNumber (sym (regroup (decimal (n / 1000000)) (front_text n) (back_text n)))
    (number_of (decimal (n / 1000000)) (front_text n ++ back_text n) (decimal_then (n / 1000000) (grind (arith, common_steps)) _ refl) (fraction_digits n h))
