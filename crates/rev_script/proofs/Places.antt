-- Where a byte stands first, and factors.
use Rattle.std.proofs.Common.{◌≡◌, ℕ, zero, suc, ◌+◌, ◌*◌, ◌<◌, ◌≤◌, ◌&&◌, Bool, true, false, cond, nat_lt, nat_le, inl, inr, ◌⊎◌, Option, None, Some, List, [], ◌∷◌, length, take, drop, get_or, refl, sym, ◌∙◌, ap, arith, add-one, take_all, length-drop}
use Rattle.std.proofs.lemmas.Bool.{ne_eqb}
use Rattle.std.proofs.lemmas.Bool.Decides.{eqb_tells, leb_tells, nat_tests}
use Rattle.std.proofs.lemmas.List.{nil_from_length}
use Rattle.std.specs.List.{slice_split, onto_first, fold}
use Rattle.std.proofs.Common.{not, ◌==◌, ◌^◌, ◌%◌, bit_or}
use Rattle.std.proofs.Math.Nat.{mod-eq_of_lt}
use Rattle.std.proofs.Math.Pow.{pow-lt}
use Rattle.rev_script.specs.Number.{has, until, past, value, is_number, number, is_factor, factor, thousandths, with_id, id_or_0}

found : (b : ℕ) (xs : List ℕ) (i : ℕ) → has b (take i xs) ≡ false → i < length xs → get_or xs i 0 ≡ b →
    (has b xs ≡ true) × (until b xs ≡ take i xs) × (past b xs ≡ drop (suc i) xs)
found b [] i h l e = absurd (omega arith)
found b (x ∷ xs) zero h l e = elim (eqb_tells x b) [
  | inl p ↦ (rw p.0 refl, rw p.0 refl, rw p.0 refl)
  | inr p ↦ absurd (p.1 e)
]
found b (x ∷ xs) (suc i) h l e = elim (eqb_tells x b) [
  | inl p ↦ absurd (let q = rw p.0 at h in cc)
  | inr p ↦
      let r = found b xs i (rw p.0 at h) (omega arith) e in
      (rw p.0 r.0, rw p.0 (ap (λ t. x ∷ t) r.1), rw p.0 r.2)
]

pub found_at : (b : ℕ) (xs : List ℕ) (i : ℕ) → has b (take i xs) ≡ false → i < length xs → get_or xs i 0 ≡ b →
    (has b xs ≡ nat_lt i (length xs)) × (until b xs ≡ take i xs) × (past b xs ≡ drop (i + 1) xs)
found_at b xs i h l e =
    let r = found b xs i h l e in
    let t : nat_lt i (length xs) ≡ true = grind (arith, nat_tests) in
    (r.0 ∙ sym t, r.1, r.2 ∙ ap (λ n. drop n xs) (sym (add-one i)))

absent : (b : ℕ) (xs : List ℕ) → has b xs ≡ false → (until b xs ≡ xs) × (past b xs ≡ [])
absent b [] h = (refl, refl)
absent b (x ∷ xs) h = elim (eqb_tells x b) [
  | inl p ↦ absurd (let q = rw p.0 at h in cc)
  | inr p ↦
      let r = absent b xs (rw p.0 at h) in
      (rw p.0 (ap (λ t. x ∷ t) r.0), rw p.0 r.1)
]

pub absent_at : (b : ℕ) (xs : List ℕ) (i : ℕ) → has b (take i xs) ≡ false → length xs ≤ i →
    (has b xs ≡ nat_lt i (length xs)) × (until b xs ≡ take i xs) × (past b xs ≡ drop (i + 1) xs)
absent_at b xs i h l =
    let all : take i xs ≡ xs = take_all i xs l in
    let none : has b xs ≡ false = ap (λ t. has b t) (sym all) ∙ h in
    let r = absent b xs none in
    let t : nat_lt i (length xs) ≡ false = grind (arith, nat_tests) in
    (none ∙ sym t, r.0 ∙ sym all, r.1 ∙ sym (nil_from_length (drop (i + 1) xs) (omega (arith, length-drop (i + 1) xs))))

pub has_more : (b : ℕ) (xs : List ℕ) (i : ℕ) → has b (take i xs) ≡ false → i < length xs → (get_or xs i 0 ≡ b → ⊥) → has b (take (suc i) xs) ≡ false
has_more b [] i h l n = absurd (omega arith)
has_more b (x ∷ xs) zero h l n = rw (ne_eqb x b n) refl
has_more b (x ∷ xs) (suc i) h l n = elim (eqb_tells x b) [
  | inl p ↦ absurd (let q = rw p.0 at h in cc)
  | inr p ↦ rw p.0 (has_more b xs i (rw p.0 at h) (omega arith) n)
]

-- ---- what a number says

some_is : (b : Bool) (x v : ℕ) → cond b (Some x) None ≡ Some v → v ≡ x
some_is true x v e = cc
some_is false x v e = absurd (cc)

pub number-some : (limit : ℕ) (w : List ℕ) (v : ℕ) → number limit w ≡ Some v → v ≡ value w
unfolding number
number-some limit w v e = some_is (is_number w && nat_le (value w) limit) (value w) v e

none_is : (a c : Bool) (x : ℕ) → a ≡ true → cond (a && c) (Some x) None ≡ None → c ≡ false
none_is true true x p e = absurd (cc)
none_is true false x p e = refl
none_is false c x p e = absurd (cc)

pub number-none : (limit : ℕ) (w : List ℕ) → is_number w ≡ true → number limit w ≡ None → limit < value w
unfolding number
number-none limit w h e = elim (leb_tells (value w) limit) [
  | inl p ↦ absurd (let q = none_is (is_number w) (nat_le (value w) limit) (value w) h e in cc (p.0, q))
  | inr p ↦ p.1
]

-- ---- factors

whole_of : (h a b c d : Bool) → cond h ((a && b) && c) d ≡ true → (h ≡ false → a ≡ d) → a ≡ true
whole_of true true b c d e f = refl
whole_of true false b c d e f = e
whole_of false a b c d e f = f refl ∙ e

pub is_factor-whole : (w : List ℕ) → is_factor w ≡ true → is_number (until 46 w) ≡ true
is_factor-whole w e = whole_of (has 46 w) (is_number (until 46 w)) (is_number (past 46 w)) (nat_le (length (past 46 w)) 3) (is_number w) e (λ h. ap is_number (absent 46 w h).0)

none_of : (a b c : Bool) (x : Option ℕ) → (a ≡ false) ⊎ ((b ≡ false) ⊎ (c ≡ false)) → None ≡ cond ((a && b) && c) x None
none_of false b c x h = refl
none_of true false c x h = refl
none_of true true false x h = refl
none_of true true true x (inl e) = absurd (cc)
none_of true true true x (inr (inl e)) = absurd (cc)
none_of true true true x (inr (inr e)) = absurd (cc)

pub factor-bad : (w : List ℕ) → is_factor w ≡ false → None ≡ factor w
unfolding factor
factor-bad w e = none_of (is_factor w) (nat_lt 0 (thousandths w)) (nat_le (thousandths w) 1000000) (Some (thousandths w)) (inl e)

pub factor-zero : (w : List ℕ) → thousandths w ≡ 0 → None ≡ factor w
unfolding factor
factor-zero w e =
    let z : nat_lt 0 (thousandths w) ≡ false = grind (arith, nat_tests) in
    none_of (is_factor w) (nat_lt 0 (thousandths w)) (nat_le (thousandths w) 1000000) (Some (thousandths w)) (inr (inl z))

pub factor-over : (w : List ℕ) → 1000000 < thousandths w → None ≡ factor w
unfolding factor
factor-over w e =
    let z : nat_le (thousandths w) 1000000 ≡ false = grind (arith, nat_tests) in
    none_of (is_factor w) (nat_lt 0 (thousandths w)) (nat_le (thousandths w) 1000000) (Some (thousandths w)) (inr (inr z))

pub factor-ok : (w : List ℕ) (t : ℕ) → is_factor w ≡ true → t ≡ thousandths w → 0 < t → t ≤ 1000000 → Some t ≡ factor w
unfolding factor
factor-ok w t f e some few =
    let a : nat_lt 0 (thousandths w) ≡ true = grind (arith, nat_tests) in
    let b : nat_le (thousandths w) 1000000 ≡ true = grind (arith, nat_tests) in
    ap Some e ∙ sym (rw (f, a, b) refl)

pub is_no : (b : Bool) → not b ≡ true → b ≡ false
is_no true p = sym p
is_no false p = refl

pub is_yes : (b : Bool) → not b ≡ false → b ≡ true
is_yes true p = refl
is_yes false p = sym p

-- ---- parts

pub split_has : (b : ℕ) (xs : List ℕ) → has b xs ≡ true → slice_split (λ x. x == b) xs ≡ until b xs ∷ slice_split (λ x. x == b) (past b xs)
split_has b [] h = absurd (cc)
split_has b (x ∷ xs) h = elim (eqb_tells x b) [
  | inl p ↦ rw p.0 refl
  | inr p ↦ rw p.0 (ap (λ t. onto_first x t) (split_has b xs (rw p.0 at h)))
]

pub split_none : (b : ℕ) (xs : List ℕ) → has b xs ≡ false → slice_split (λ x. x == b) xs ≡ xs ∷ []
split_none b [] h = refl
split_none b (x ∷ xs) h = elim (eqb_tells x b) [
  | inl p ↦ absurd (let q = rw p.0 at h in cc)
  | inr p ↦ rw p.0 (ap (λ t. onto_first x t) (split_none b xs (rw p.0 at h)))
]

-- the last part of a list of ids
pub ids_last : (set p : ℕ) (rest : List ℕ) → length rest ≤ p → has 44 rest ≡ nat_lt p (length rest) →
    fold with_id set (slice_split (λ b. b == 44) rest) ≡ with_id set rest
ids_last set p rest h e =
    let t : nat_lt p (length rest) ≡ false = grind (arith, nat_tests) in
    ap (λ ws. fold with_id set ws) (split_none 44 rest (e ∙ t))

-- a part, and the rest
pub ids_next : (set p : ℕ) (rest : List ℕ) → p < length rest → has 44 rest ≡ nat_lt p (length rest) → until 44 rest ≡ take p rest → past 44 rest ≡ drop (p + 1) rest →
    fold with_id (with_id set (take p rest)) (slice_split (λ b. b == 44) (drop (p + 1) rest)) ≡ fold with_id set (slice_split (λ b. b == 44) rest)
ids_next set p rest h e u q =
    let t : nat_lt p (length rest) ≡ true = grind (arith, nat_tests) in
    sym (ap (λ ws. fold with_id set ws) (split_has 44 rest (e ∙ t)) ∙ ap (λ w. fold with_id (with_id set w) (slice_split (λ b. b == 44) (past 44 rest))) u
    ∙ ap (λ r. fold with_id (with_id set (take p rest)) (slice_split (λ b. b == 44) r)) q)

id_bit : (n : ℕ) → n ≤ 63 → (1 * 2 ^ n) % 18446744073709551616 ≡ 2 ^ n
id_bit n h =
    let s : n < 64 = omega arith in
    let e : 1 * 2 ^ n ≡ 2 ^ n = omega arith in
    ap (λ t. t % 18446744073709551616) e ∙ mod-eq_of_lt {n = 2 ^ n} {m = 18446744073709551616} (pow-lt s)

pub with_bit : (set n : ℕ) (w : List ℕ) → n ≡ id_or_0 (number 63 w) → n ≤ 63 → bit_or set ((1 * 2 ^ n) % 18446744073709551616) ≡ with_id set w
with_bit set n w e h = ap (λ b. bit_or set b) (id_bit n h ∙ ap (λ k. 2 ^ k) e)
