-- Factors that were written are the factors that are read, and what the limits of `lru tune` say.
use Rattle.std.proofs.Common.{◌≡◌, ℕ, ◌+◌, ◌-◌, ◌*◌, ◌/◌, ◌%◌, ◌^◌, ◌<◌, ◌≤◌, ◌&&◌, true, false, List, [], ◌∷◌, ◌++◌, length, refl, sym, ◌∙◌, ap, subst, arith, nat_lt, nat_le, cond, Some, None, length-append, slice_index_or}
use Rattle.std.specs.Fmt.{decimal}
use Rattle.std.proofs.lemmas.Bool.{le-leb, leb-true}
use Rattle.std.proofs.lemmas.Fmt.{digits_decimal, digits_value-decimal, decimal_nonempty, length-decimal-le}
use Rattle.std.specs.List.{list_all}
use Rattle.rev_requests.specs.Limits.{is_within, is_tune}
use Rattle.rev_script.specs.Number.{is_digit, value, is_number, has, until, past, is_factor, digit, thousandths, factor}
use Rattle.rev_import.specs.Writing.{is_word, behind_point, factor_text}
use Rattle.rev_import.proofs.Words.{both, either, has-then, until-then, past-then}
use Rattle.rev_import.proofs.Numerals.{script_numerals, digit_to, digits_lack, above_space}

-- what the limits say
pub record Within (h w f v : ℕ) : Type 0 where
  pub hot : h ≤ 79
  pub warm : w ≤ 79
  pub sum : h + w ≤ 80
  pub hot_least : 1 ≤ f
  pub hot_most : f ≤ 1000000
  pub warm_least : 1 ≤ v
  pub warm_most : v ≤ 1000000

pub within : (h w f v : ℕ) → is_tune h w f v ≡ true → Within h w f v
within h w f v t =
    let a = both (is_within 1 79 h) _ t in
    let b = both (is_within 1 79 w) _ a.1 in
    let c = both (nat_le (h + w) 80) _ b.1 in
    let d = both (is_within 1 1000000 f) _ c.1 in
    record {
      hot = leb-true h 79 (both (nat_le 1 h) _ a.0).1;
      warm = leb-true w 79 (both (nat_le 1 w) _ b.0).1;
      sum = leb-true (h + w) 80 c.0;
      hot_least = leb-true 1 f (both (nat_le 1 f) _ d.0).0;
      hot_most = leb-true f 1000000 (both (nat_le 1 f) _ d.0).1;
      warm_least = leb-true 1 v (both (nat_le 1 v) _ d.1).0;
      warm_most = leb-true v 1000000 (both (nat_le 1 v) _ d.1).1;
    }

one_digit : (n : ℕ) → is_digit (48 + n % 10) ≡ true
one_digit n = digit_to (48 + n % 10) (omega arith) (omega arith)

digits_behind : (n : ℕ) → list_all is_digit (behind_point n) ≡ true
digits_behind n = either _ _ (one_digit (n / 100)) (either _ _ (one_digit (n / 10)) (either _ _ (one_digit n) refl))

all_more : (a b : List ℕ) → list_all (nat_lt 32) a ≡ true → list_all (nat_lt 32) b ≡ true → list_all (nat_lt 32) (a ++ b) ≡ true
all_more [] b p q = q
all_more (x ∷ xs) b p q =
    let k = both (nat_lt 32 x) (list_all (nat_lt 32) xs) p in
    either _ _ k.0 (all_more xs b k.1 q)

module _ (n : ℕ) (most : n ≤ 1000000) where
  small : n / 1000 < 2 ^ 64
  small = omega (arith, most)

  digits_front : list_all is_digit (decimal (n / 1000)) ≡ true
  digits_front = digits_decimal script_numerals (n / 1000) small

  no_point : has 46 (decimal (n / 1000)) ≡ false
  no_point = digits_lack 46 (omega arith) (decimal (n / 1000)) digits_front

  has_point : has 46 (factor_text n) ≡ true
  has_point = has-then 46 (decimal (n / 1000)) (behind_point n) no_point

  front_is : until 46 (factor_text n) ≡ decimal (n / 1000)
  front_is = until-then 46 (decimal (n / 1000)) (behind_point n) no_point

  behind_is : past 46 (factor_text n) ≡ behind_point n
  behind_is = past-then 46 (decimal (n / 1000)) (behind_point n) no_point

  pub is_factor-text : is_factor (factor_text n) ≡ true
  is_factor-text =
      let form : List ℕ → List ℕ → Type 0 = λ a b. is_number a && is_number b && nat_le (length b) 3 ≡ true in
      let number_front : is_number (decimal (n / 1000)) ≡ true = either _ _ (le-leb 1 (length (decimal (n / 1000))) (decimal_nonempty (n / 1000) small)) digits_front in
      let number_behind : is_number (behind_point n) ≡ true = either _ _ (le-leb 1 (length (behind_point n)) (omega arith)) (digits_behind n) in
      ap (λ b. cond b (is_number (until 46 (factor_text n)) && is_number (past 46 (factor_text n)) && nat_le (length (past 46 (factor_text n))) 3) (is_number (factor_text n))) has_point
      ∙ subst (λ a. form a (past 46 (factor_text n))) (sym front_is) (subst (λ b. form (decimal (n / 1000)) b) (sym behind_is) (either _ _ (either _ _ number_front number_behind) (le-leb (length (behind_point n)) 3 (omega arith))))

  thousandths-text : thousandths (factor_text n) ≡ n
  thousandths-text =
      let t : List ℕ → List ℕ → ℕ = λ a b. value a * 1000 + digit b 0 * 100 + digit b 1 * 10 + digit b 2 in
      let v : value (decimal (n / 1000)) ≡ n / 1000 = digits_value-decimal script_numerals (n / 1000) small in
      let parts : (n / 1000) * 1000 + ((48 + (n / 100) % 10) - 48) * 100 + ((48 + (n / 10) % 10) - 48) * 10 + ((48 + n % 10) - 48) ≡ n = omega arith in
      ap (λ a. t a (past 46 (factor_text n))) front_is ∙ ap (λ b. t (decimal (n / 1000)) b) behind_is
      ∙ ap (λ x. x * 1000 + digit (behind_point n) 0 * 100 + digit (behind_point n) 1 * 10 + digit (behind_point n) 2) v
      ∙ parts

  pub factor-text : 1 ≤ n → factor (factor_text n) ≡ Some n
  unfolding factor
  factor-text least =
      let test : (is_factor (factor_text n) && nat_lt 0 (thousandths (factor_text n)) && nat_le (thousandths (factor_text n)) 1000000) ≡ true =
      either _ _ (either _ _ is_factor-text (ap (nat_lt 0) thousandths-text ∙ le-leb 1 n least)) (ap (λ m. nat_le m 1000000) thousandths-text ∙ le-leb n 1000000 most) in
      ap (λ b. cond b (Some (thousandths (factor_text n))) None) test ∙ ap (λ m. Some m) thousandths-text

  above_point : list_all (nat_lt 32) (factor_text n) ≡ true
  above_point = all_more (decimal (n / 1000)) (46 ∷ behind_point n) (above_space (decimal (n / 1000)) digits_front) (above_space (behind_point n) (digits_behind n))

  pub is_word-factor : is_word (factor_text n) ≡ true
  is_word-factor = either _ _ (le-leb 1 (length (factor_text n)) (omega (arith, length-append (decimal (n / 1000)) (46 ∷ behind_point n)))) above_point

  pub length-factor : length (factor_text n) ≤ 25
  length-factor = omega (arith, most, length-append (decimal (n / 1000)) (46 ∷ behind_point n), length-decimal-le 20 (n / 1000))
