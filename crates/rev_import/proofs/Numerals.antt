-- Numbers that were written are the numbers that are read.
use Rattle.std.proofs.Common.{◌≡◌, ℕ, ℤ, pos, negsuc, suc, ◌-ℤ◌, ◌^◌, ◌<◌, ◌≤◌, ◌&&◌, true, false, List, [], ◌∷◌, length, refl, ◌∙◌, ap, arith, nat_lt, nat_le, cond, Some, None}
use Rattle.std.specs.Fmt.{decimal, signed_decimal}
use Rattle.std.proofs.lemmas.Bool.{le-leb, leb-true, ne_eqb}
use Rattle.std.proofs.lemmas.Bool.Decides.{nat_tests}
use Rattle.std.proofs.lemmas.Fmt.{digits_decimal, digits_value-decimal, decimal_nonempty, length-decimal-le}
use Rattle.std.proofs.lemmas.Str.Parse.{IsDigitsTest, WeighsDigits, IsNumeralModel, numerals_by_weight}
use Rattle.std.proofs.lemmas.Int.{ints}
use lib.Signed.{mag}
use Rattle.std.specs.List.{list_all}
use Rattle.rev_script.specs.Number.{is_digit, value, is_number, number, number_u32, signed, negated, plain, has}
use Rattle.rev_items.specs.Keys.{is_key, is_key_byte}
use Rattle.rev_import.specs.Writing.{is_word}
use Rattle.rev_import.proofs.Words.{both, either}

pub digit_from : (c : ℕ) → is_digit c ≡ true → (48 ≤ c) × (c ≤ 57)
digit_from c h = grind (arith, nat_tests)

pub digit_to : (c : ℕ) → 48 ≤ c → c ≤ 57 → is_digit c ≡ true
digit_to c p q = either (nat_le 48 c) (nat_le c 57) (le-leb 48 c p) (le-leb c 57 q)

tells_script_digits : IsDigitsTest (λ ds. list_all is_digit ds ≡ true)
tells_script_digits = record {
  empty = refl;
  parts = λ c cs e. let k = both (is_digit c) (list_all is_digit cs) e in (digit_from c k.0, k.1);
  more = λ c cs k e. either (is_digit c) (list_all is_digit cs) (digit_to c k.0 k.1) e;
}

weighs_script_digits : WeighsDigits value
weighs_script_digits = record { empty = refl; more = λ c cs k. refl }

pub script_numerals : IsNumeralModel (λ ds. list_all is_digit ds ≡ true) value
script_numerals = numerals_by_weight _ tells_script_digits value weighs_script_digits

-- a byte that is below the digits does not stand among them
pub digits_lack : (b : ℕ) → b < 48 → (w : List ℕ) → list_all is_digit w ≡ true → has b w ≡ false
digits_lack b low [] h = refl
digits_lack b low (x ∷ xs) h =
    let k = both (is_digit x) (list_all is_digit xs) h in
    let d = digit_from x k.0 in
    rw (ne_eqb x b (λ e. omega (arith, e, d.0, low))) (digits_lack b low xs k.1)

-- a number within its limit
pub number-decimal : (limit n : ℕ) → n ≤ limit → n < 2 ^ 64 → number limit (decimal n) ≡ Some n
unfolding number
number-decimal limit n l h =
    let v = digits_value-decimal script_numerals n h in
    let some : nat_lt 0 (length (decimal n)) ≡ true = le-leb 1 (length (decimal n)) (decimal_nonempty n h) in
    let digits : list_all is_digit (decimal n) ≡ true = digits_decimal script_numerals n h in
    let fits : nat_le (value (decimal n)) limit ≡ true = ap (λ m. nat_le m limit) v ∙ le-leb n limit l in
    let test : (is_number (decimal n) && nat_le (value (decimal n)) limit) ≡ true = either _ _ (either _ _ some digits) fits in
    ap (λ b. cond b (Some (value (decimal n))) None) test ∙ ap (λ m. Some m) v

pub number_u32-decimal : (n : ℕ) → n < 2 ^ 32 → number_u32 (decimal n) ≡ Some n
number_u32-decimal n h = number-decimal 4294967295 n (omega arith) (omega arith)

-- a first byte that is a digit is no sign
unsigned_first : (ds : List ℕ) → 0 < length ds → list_all is_digit ds ≡ true → signed ds ≡ plain (number 2147483647 ds)
unfolding signed
unsigned_first [] some all = absurd (omega arith)
unsigned_first (b ∷ bs) some all =
    let k = digit_from b (both (is_digit b) (list_all is_digit bs) all).0 in
    let t : (nat_le 45 b && nat_le b 45) ≡ false = grind (arith, nat_tests) in
    ap (λ t. cond t (negated (number 2147483648 bs)) (plain (number 2147483647 (b ∷ bs)))) t

pub signed-decimal : (n : ℕ) → n < 2 ^ 31 → signed (decimal n) ≡ Some (pos n)
signed-decimal n h =
    unsigned_first (decimal n) (decimal_nonempty n (omega arith)) (digits_decimal script_numerals n (omega arith))
    ∙ ap plain (number-decimal 2147483647 n (omega arith) (omega arith))

below_zero : (n : ℕ) → pos 0 -ℤ pos (suc n) ≡ negsuc n
below_zero n = omega (arith, ints)

pub signed-signed_decimal : (z : ℤ) → mag z < 2 ^ 31 → signed (signed_decimal z) ≡ Some z
unfolding signed
signed-signed_decimal (pos n) h = signed-decimal n h
signed-signed_decimal (negsuc n) h = ap negated (number-decimal 2147483648 (suc n) (omega arith) (omega arith)) ∙ ap (λ m. Some m) (below_zero n)

-- ---- words

pub above_space : (w : List ℕ) → list_all is_digit w ≡ true → list_all (nat_lt 32) w ≡ true
above_space [] h = refl
above_space (b ∷ bs) h =
    let k = both (is_digit b) (list_all is_digit bs) h in
    let d = digit_from b k.0 in
    either (nat_lt 32 b) (list_all (nat_lt 32) bs) (le-leb 33 b (omega arith)) (above_space bs k.1)

pub is_word-decimal : (n : ℕ) → n < 2 ^ 64 → is_word (decimal n) ≡ true
is_word-decimal n h = either _ _ (le-leb 1 (length (decimal n)) (decimal_nonempty n h)) (above_space (decimal n) (digits_decimal script_numerals n h))

pub is_word-signed : (z : ℤ) → mag z < 2 ^ 31 → (is_word (signed_decimal z) ≡ true) × (length (signed_decimal z) ≤ 21)
is_word-signed (pos n) h = (is_word-decimal n (omega arith), omega (arith, length-decimal-le 20 n))
is_word-signed (negsuc n) h =
    let k = both (nat_lt 0 (length (decimal (suc n)))) (list_all (nat_lt 32) (decimal (suc n))) (is_word-decimal (suc n) (omega arith)) in
    (either _ _ (le-leb 1 (length (45 ∷ decimal (suc n))) (omega arith)) k.1, omega (arith, length-decimal-le 20 (suc n)))

key_above_space : (w : List ℕ) → list_all is_key_byte w ≡ true → list_all (nat_lt 32) w ≡ true
key_above_space [] h = refl
key_above_space (b ∷ bs) h =
    let k = both (is_key_byte b) (list_all is_key_byte bs) h in
    either (nat_lt 32 b) (list_all (nat_lt 32) bs) (both (nat_lt 32 b) _ k.0).0 (key_above_space bs k.1)

pub is_word-key : (w : List ℕ) → is_key w ≡ true → (is_word w ≡ true) × (length w ≤ 250)
is_word-key w h =
    let k = both (nat_lt 0 (length w)) _ h in
    let m = both (nat_le (length w) 250) (list_all is_key_byte w) k.1 in
    (either _ _ k.0 (key_above_space w m.1), leb-true (length w) 250 m.0)
