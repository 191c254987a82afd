-- Groups in a list that may be kept the other way round.
use Rattle.std.proofs.Common.{◌≡◌, ◌++◌, ◌-◌, ◌<◌, ℕ, zero, suc, Bool, true, false, List, [], ◌∷◌, length, refl, map, sym, ap, ◌∙◌, arith, inl, inr, slice_set, slice_index_or, ◌≤◌, Option, None, Some, Bor, MatchOption, IfSome, is_some, nat_lt}
use Rattle.std.specs.Prelude.{not}
use Rattle.std.proofs.lemmas.Bool.{cases_lt, lt-ltb, false≢true}
use Rattle.std.proofs.Math.ListN.{get_or-map}
use Rattle.std.proofs.lemmas.List.{map-append, map-set, length-map, length-reverse, get_or-reverse, set-append_left, reverse-reverse}
use Rattle.std.proofs.Math.Seq.{set-append_seam}
use mathlib.Core.List.{reverse, reverse-cons}
use Rattle.rev_inverse.specs.declared.changes.Change.{Change}
use Rattle.rev_inverse.specs.Record.{PlainChange, plain_change, in_order, place_in}

pub map-reverse : {A B : Type 0} (f : A → B) (xs : List A) → map f (reverse xs) ≡ reverse (map f xs)
map-reverse f [] = refl
map-reverse f (x ∷ xs) = ap (map f) (reverse-cons x xs) ∙ map-append f (reverse xs) (x ∷ []) ∙ ap (λ l. l ++ f x ∷ []) (map-reverse f xs) ∙ sym (reverse-cons (f x) (map f xs))

set-reverse : {X : Type 0} (xs : List X) (k : ℕ) (x : X) → k < length xs → slice_set (reverse xs) k x ≡ reverse (slice_set xs (length xs - 1 - k) x)
set-reverse [] k x lt = absurd (omega (arith, lt))
set-reverse (y ∷ ys) k x lt = elim (cases_lt k (length ys)) [
  | inl l ↦
      let e : suc (length ys - 1 - k) ≡ suc (length ys) - 1 - k = omega (arith, l) in
      ap (λ t. slice_set t k x) (reverse-cons y ys)
      ∙ set-append_left (reverse ys) (y ∷ []) k x (omega (arith, l, length-reverse ys))
      ∙ ap (λ t. t ++ y ∷ []) (set-reverse ys k x l)
      ∙ sym (reverse-cons y (slice_set ys (length ys - 1 - k) x))
      ∙ ap (λ i. reverse (slice_set (y ∷ ys) i x)) e
  | inr g ↦
      let last : k ≡ length (reverse ys) = omega (arith, lt, g, length-reverse ys) in
      let e : zero ≡ suc (length ys) - 1 - k = omega (arith, lt, g) in
      ap (λ t. slice_set t k x) (reverse-cons y ys)
      ∙ ap (λ i. slice_set (reverse ys ++ y ∷ []) i x) last
      ∙ set-append_seam (reverse ys) y [] x
      ∙ sym (reverse-cons x ys)
      ∙ ap (λ i. reverse (slice_set (y ∷ ys) i x)) e
]

pub length-in_order : (b : Bool) (gs : List PlainChange) → length (in_order b gs) ≡ length gs
length-in_order false gs = refl
length-in_order true gs = length-reverse gs

at_place : (b : Bool) (gs : List PlainChange) (i : ℕ) (d : PlainChange) → i < length gs → slice_index_or (in_order b gs) i d ≡ slice_index_or gs (place_in b i (length gs)) d
at_place false gs i d lt = refl
at_place true gs i d lt = get_or-reverse gs i d lt

set_place : (b : Bool) (gs : List PlainChange) (i : ℕ) (g : PlainChange) → i < length gs → slice_set (in_order b gs) i g ≡ in_order b (slice_set gs (place_in b i (length gs)) g)
set_place false gs i g lt = refl
set_place true gs i g lt = set-reverse gs i g lt

pub turned-over : (b : Bool) (gs : List PlainChange) → in_order (not b) gs ≡ reverse (in_order b gs)
turned-over false gs = refl
turned-over true gs = sym (reverse-reverse gs)

-- a change at the place of the i-th change is that change
pub shown : {A : Type 0} (b : Bool) (ms : List (Change A)) (i at : ℕ) (m : Change A) → i < length ms → at ≡ place_in b i (length ms) → m ≡ slice_index_or ms at m → plain_change m ≡ slice_index_or (in_order b (map plain_change ms)) i (plain_change m)
shown b ms i at m lt is e =
    let n : length (map plain_change ms) ≡ length ms = length-map ms plain_change in
    ap plain_change e
    ∙ sym (get_or-map plain_change ms at m)
    ∙ ap (λ k. slice_index_or (map plain_change ms) k (plain_change m)) (is ∙ ap (place_in b i) (sym n))
    ∙ sym (at_place b (map plain_change ms) i (plain_change m) (omega (arith, lt, n)))

-- what is found at the place of the i-th change
pub found : {A : Type 0} (b : Bool) (ms : List (Change A)) (i at : ℕ) (o : Option (Bor (Change A))) → i < length ms → at < length ms → at ≡ place_in b i (length ms) → is_some o ≡ nat_lt at (length ms) → IfSome o (λ m. m.now ≡ slice_index_or ms at m.now)
    → MatchOption o (length (in_order b (map plain_change ms)) ≤ i) (λ m. (i < length (in_order b (map plain_change ms))) × (plain_change m.now ≡ slice_index_or (in_order b (map plain_change ms)) i (plain_change m.now)))
found b ms i at None lt there is some one = absurd (false≢true (some ∙ lt-ltb at (length ms) there))
found b ms i at (Some m) lt there is some one = (omega (arith, lt, length-in_order b (map plain_change ms), length-map ms plain_change), shown b ms i at m.now lt is one)

-- and a change that is written there becomes that change
pub written : {A : Type 0} (b : Bool) (ms : List (Change A)) (i at : ℕ) (m : Change A) → i < length ms → at ≡ place_in b i (length ms) → in_order b (map plain_change (slice_set ms at m)) ≡ slice_set (in_order b (map plain_change ms)) i (plain_change m)
written b ms i at m lt is =
    let n : length (map plain_change ms) ≡ length ms = length-map ms plain_change in
    ap (in_order b) (map-set plain_change ms at m)
    ∙ ap (λ k. in_order b (slice_set (map plain_change ms) k (plain_change m))) (is ∙ ap (place_in b i) (sym n))
    ∙ sym (set_place b (map plain_change ms) i (plain_change m) (omega (arith, lt, n)))
