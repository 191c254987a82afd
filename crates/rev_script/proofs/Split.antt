-- The words of a text, cut by the mask of its spaces.
use Rattle.std.proofs.Common.{◌≡◌, ◌≢◌, ◌↔◌, ℕ, ◌+◌, ◌-◌, ◌<◌, ◌≤◌, ◌==◌, not, true, false, inl, inr, List, [], ◌∷◌, ◌++◌, length, get_or, take, drop, refl, sym, ◌∙◌, ap, arith, append-nil, take_all, length-take, length-drop}
use Rattle.std.proofs.lemmas.Bool.Decides.{eqb_tells, leb_tells, nat_tests}
use Rattle.std.proofs.lemmas.List.{drop-drop, get_or-take, get_or-drop}
use Rattle.std.specs.Int.{bit_at}
use Rattle.std.specs.List.{filter, slice_split}
use Rattle.std.proofs.Common.{nat_lt, suc}
use Rattle.rev_script.specs.Number.{has, until, past}
use Rattle.rev_script.specs.Words.{words, word_or_none}
use Rattle.rev_script.proofs.Places.{found_at, split_has, split_none}

filter_first : (u : List ℕ) (rest : List (List ℕ)) → filter (λ w. not (length w == 0)) (u ∷ rest) ≡ word_or_none u ++ filter (λ w. not (length w == 0)) rest
filter_first u rest = elim (eqb_tells (length u) 0) [
  | inl p ↦ rw p.0 refl
  | inr p ↦ rw p.0 refl
]

-- the first word ends at this space
pub words_at : (xs : List ℕ) (i : ℕ) → has 32 (take i xs) ≡ false → i < length xs → get_or xs i 0 ≡ 32 → words xs ≡ word_or_none (take i xs) ++ words (drop (i + 1) xs)
words_at xs i h l e =
    let f = found_at 32 xs i h l e in
    let t : nat_lt i (length xs) ≡ true = grind (arith, nat_tests) in
    ap (λ ws. filter (λ w. not (length w == 0)) ws) (split_has 32 xs (f.0 ∙ t))
    ∙ filter_first (until 32 xs) (slice_split (λ x. x == 32) (past 32 xs))
    ∙ ap (λ u. word_or_none u ++ words (past 32 xs)) f.1
    ∙ ap (λ r. word_or_none (take i xs) ++ words r) f.2

-- there is no space more
pub words_none : (xs : List ℕ) → has 32 xs ≡ false → words xs ≡ word_or_none xs
words_none xs h = ap (λ ws. filter (λ w. not (length w == 0)) ws) (split_none 32 xs h) ∙ filter_first xs [] ∙ append-nil (word_or_none xs)

none_has : (b : ℕ) (xs : List ℕ) → ((k : ℕ) → k < length xs → get_or xs k 0 ≡ b → ⊥) → has b xs ≡ false
none_has b [] h = refl
none_has b (x ∷ xs) h = elim (eqb_tells x b) [
  | inl p ↦ absurd (h 0 (omega arith) p.1)
  | inr p ↦ rw p.0 (none_has b xs (λ k l e. h (suc k) (omega arith) e))
]

-- the bits that are left in the mask stand for the spaces from here on
pub record IsLeft (text : List ℕ) (mask from : ℕ) : Type 0 where
  pub within : from ≤ length text
  pub clear : (k : ℕ) → k < from → bit_at mask k ≡ 0
  pub tells : (k : ℕ) → from ≤ k → k < length text → ((bit_at mask k ≡ 1) ↔ (get_or text k 0 ≡ 32))

pub ordered : {text : List ℕ} {mask from : ℕ} (end : ℕ) → IsLeft text mask from → end ≤ length text → (end < length text → bit_at mask end ≡ 1) → from ≤ end
ordered {text} {mask} {from} end s b set = elim (leb_tells from end) [
  | inl p ↦ p.1
  | inr p ↦ absurd (let l : end < from = omega (arith, p.1) in let i : bit_at mask end ≡ 1 = set (omega (arith, s.within)) in let z : bit_at mask end ≡ 0 = s.clear end l in omega (arith, i, z))
]

-- one bit less in the mask
pub left_of : {text : List ℕ} {mask from : ℕ} (end less : ℕ) → IsLeft text mask from → length text ≤ 64 → end < length text → from ≤ end → ((k : ℕ) → k < end → bit_at mask k ≡ 0) →
    bit_at less end ≡ 0 → ((k : ℕ) → k < 64 → k ≢ end → bit_at less k ≡ bit_at mask k) → IsLeft text less (end + 1)
left_of {text} {mask} {from} end less s short l o below gone kept = record {
  within = omega arith;
  clear = λ k a. elim (eqb_tells k end) [
    | inl p ↦ ap (λ i. bit_at less i) p.1 ∙ gone
    | inr p ↦ let b : k < end = omega (arith, p.1) in kept k (omega arith) p.1 ∙ below k b
  ];
  tells = λ k a b.
      let e : bit_at less k ≡ bit_at mask k = kept k (omega arith) (λ q. omega (arith, q)) in
      let t = s.tells k (omega arith) b in
      (λ h. t.0 (sym e ∙ h), λ h. e ∙ t.1 h);
}

-- no space stands before the next place of the mask
gap : {text : List ℕ} {mask from : ℕ} (end : ℕ) → IsLeft text mask from → end ≤ length text → from ≤ end → ((k : ℕ) → k < end → bit_at mask k ≡ 0) →
    has 32 (take (end - from) (drop from text)) ≡ false
gap {text} {mask} {from} end s b o below = none_has 32 _ (λ k l e.
    let small : k < end - from = omega (arith, l, length-take (end - from) (drop from text)) in
    let at : get_or (take (end - from) (drop from text)) k 0 ≡ get_or text (from + k) 0 = get_or-take (end - from) (drop from text) k 0 small ∙ get_or-drop from text k 0 in
    let one : bit_at mask (from + k) ≡ 1 = (s.tells (from + k) (omega arith) (omega arith)).1 (sym at ∙ e) in
    let zero : bit_at mask (from + k) ≡ 0 = below (from + k) (omega arith) in
    omega (arith, one, zero))

pub part : {text : List ℕ} {mask from : ℕ} (end : ℕ) → IsLeft text mask from → end < length text → from ≤ end → ((k : ℕ) → k < end → bit_at mask k ≡ 0) → bit_at mask end ≡ 1 →
    words (drop from text) ≡ word_or_none (take (end - from) (drop from text)) ++ words (drop (end + 1) text)
part {text} {mask} {from} end s l o below set =
    let i : from + (end - from) ≡ end = omega arith in
    let space : get_or (drop from text) (end - from) 0 ≡ 32 = get_or-drop from text (end - from) 0 ∙ ap (λ n. get_or text n 0) i ∙ (s.tells end o l).0 set in
    let next : from + (end - from + 1) ≡ end + 1 = omega arith in
    words_at (drop from text) (end - from) (gap end s (omega arith) o below) (omega (arith, length-drop from text)) space
    ∙ ap (λ r. word_or_none (take (end - from) (drop from text)) ++ words r) (drop-drop (end - from + 1) from text ∙ ap (λ n. drop n text) next)

pub last : {text : List ℕ} {mask from : ℕ} (end : ℕ) → IsLeft text mask from → end ≡ length text → from ≤ end → ((k : ℕ) → k < end → bit_at mask k ≡ 0) →
    words (drop from text) ≡ word_or_none (take (end - from) (drop from text))
last {text} {mask} {from} end s e o below =
    let all : take (end - from) (drop from text) ≡ drop from text = take_all (end - from) (drop from text) (omega (arith, length-drop from text)) in
    let none : has 32 (drop from text) ≡ false = ap (λ t. has 32 t) (sym all) ∙ gap end s (omega arith) o below in
    words_none (drop from text) none ∙ ap word_or_none (sym all)
