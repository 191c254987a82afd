-- The next of the spaces that are left in a text, and what stands before and behind it.
use Rattle.std.proofs.Common.{◌≡◌, ℕ, zero, suc, ◌+◌, ◌-◌, ◌<◌, ◌≤◌, ◌==◌, Bool, true, false, inl, inr, Some, List, [], ◌∷◌, length, take, drop, get_or, refl, sym, ◌∙◌, ap, subst, arith, take_all, length-drop}
use Rattle.std.proofs.lemmas.Bool.{cases_Bool, cond-true, cond-false, false≢true, eqb-true, eqb-false}
use Rattle.std.proofs.lemmas.List.{get_or-drop, drop-drop, drop_all}
use Rattle.memchr.specs.Find.{IsFirstByte, Passes, Nowhere, is_byte, places_from, places_between}
use Rattle.rev_script.specs.Number.{has, until, past}
use Rattle.rev_watch.specs.Spaces.{IsAt}
use Rattle.rev_watch.proofs.WordLemmas.{cut_at, uncut, all_until, none_past}

-- the first of these places, and the others behind it
record IsNextPlace (test : ℕ → Bool) (hay : List ℕ) (i j k : ℕ) (rest : List ℕ) : Type 0 where
  pub low : i ≤ k
  pub high : k < j
  pub before : Nowhere (Passes test hay) i k
  pub here : Passes test hay k
  pub others : rest ≡ places_between test hay (k + 1) j

module _ (test : ℕ → Bool) (hay : List ℕ) where
  hit : (i n : ℕ) → Passes test hay i → places_from test hay i (suc n) ≡ i ∷ places_from test hay (i + 1) n
  unfolding places_from
  hit i n h = cond-true _ _ _ h

  no_hit : (i n : ℕ) → (Passes test hay i → ⊥) → places_from test hay i (suc n) ≡ places_from test hay (i + 1) n
  unfolding places_from
  no_hit i n h = elim (cases_Bool (test (get_or hay i 0))) [
    | inl t ↦ absurd (h t)
    | inr f ↦ cond-false _ _ _ f
  ]

  empty : (i : ℕ) → places_from test hay i zero ≡ []
  unfolding places_from
  empty i = refl

  head : (x y : ℕ) (xs ys : List ℕ) → x ∷ xs ≡ y ∷ ys → (x ≡ y) × (xs ≡ ys)
  head x y xs ys e = (cc, cc)

  next_place : (i n k : ℕ) (rest : List ℕ) → places_from test hay i n ≡ k ∷ rest → IsNextPlace test hay i (i + n) k rest
  next_place i zero k rest e = absurd (let q = sym (empty i) ∙ e in cc)
  next_place i (suc n) k rest e = elim (cases_Bool (test (get_or hay i 0))) [
    | inl t ↦
        let s = head i k (places_from test hay (i + 1) n) rest (sym (hit i n t) ∙ e) in
        let count : n ≡ i + suc n - (k + 1) = omega (arith, s.0) in
        record {
          low = omega (arith, s.0);
          high = omega (arith, s.0);
          before = λ m low high p. omega (arith, s.0, low, high);
          here = subst (Passes test hay) s.0 t;
          others = sym s.1 ∙ ap (λ a. places_from test hay (a + 1) n) s.0 ∙ ap (places_from test hay (k + 1)) count;
        }
    | inr f ↦
        let none : Passes test hay i → ⊥ = λ t. absurd (false≢true (sym f ∙ t)) in
        let r = next_place (i + 1) n k rest (sym (no_hit i n none) ∙ e) in
        let end : i + 1 + n ≡ i + suc n = omega arith in
        record {
          low = omega (arith, r.low);
          high = omega (arith, r.high);
          before = λ m low high. elim (cases_Bool (m == i)) [
            | inl q ↦ subst (λ a. Passes test hay a → ⊥) (sym (eqb-true _ _ q)) none
            | inr q ↦ r.before m (omega (arith, low, eqb-false _ _ q)) high
          ];
          here = r.here;
          others = r.others ∙ ap (places_between test hay (k + 1)) end;
        }
  ]

  no_place : (i n : ℕ) → places_from test hay i n ≡ [] → Nowhere (Passes test hay) i (i + n)
  no_place i zero e = λ m low high p. omega (arith, low, high)
  no_place i (suc n) e = elim (cases_Bool (test (get_or hay i 0))) [
    | inl t ↦ absurd (let q = sym (hit i n t) ∙ e in cc)
    | inr f ↦
        let none : Passes test hay i → ⊥ = λ t. absurd (false≢true (sym f ∙ t)) in
        let r = no_place (i + 1) n (sym (no_hit i n none) ∙ e) in
        λ m low high. elim (cases_Bool (m == i)) [
          | inl q ↦ subst (λ a. Passes test hay a → ⊥) (sym (eqb-true _ _ q)) none
          | inr q ↦ r m (omega (arith, low, eqb-false _ _ q)) (omega (arith, high))
        ]
  ]

-- a place of what is left is a place of the text
passes-drop : (text : List ℕ) (from m : ℕ) → Passes (is_byte 32) (drop from text) m → Passes (is_byte 32) text (from + m)
passes-drop text from m p = sym (ap (λ x. x == 32) (get_or-drop from text m 0)) ∙ p

drop-passes : (text : List ℕ) (from m : ℕ) → Passes (is_byte 32) text (from + m) → Passes (is_byte 32) (drop from text) m
drop-passes text from m p = ap (λ x. x == 32) (get_or-drop from text m 0) ∙ p

-- a word, cut off at a space
pub record IsCut (text : List ℕ) (from k : ℕ) (rest : List ℕ) : Type 0 where
  pub low : from ≤ k
  pub high : k < length text
  pub word : take (k - from) (drop from text) ≡ until 32 (drop from text)
  pub more : true ≡ has 32 (drop from text)
  pub left : drop (k + 1) text ≡ past 32 (drop from text)
  pub after : IsAt text (k + 1) rest

pub cut_off : (text : List ℕ) (from k : ℕ) (spaces rest : List ℕ) → IsAt text from spaces → spaces ≡ k ∷ rest → IsCut text from k rest
cut_off text from k spaces rest at e =
    let front : List ℕ = drop from text in
    let next = next_place (is_byte 32) text from (length text - from) k rest (sym at.places ∙ e) in
    let end : from + (length text - from) ≡ length text = omega (arith, at.within) in
    let high : k < length text = omega (arith, next.high, end) in
    let low : from ≤ k = next.low in
    let place : from + (k - from) ≡ k = omega (arith, low) in
    let first : IsFirstByte (is_byte 32) front (Some (k - from)) = (
      record {
        low = omega arith;
        high = omega (arith, length-drop from text, high, low);
        before = λ m l h p. next.before (from + m) (omega arith) (omega (arith, h, low)) (passes-drop text from m p);
      },
      drop-passes text from (k - from) (subst (Passes (is_byte 32) text) (sym place) next.here),
    ) in
    let cut = cut_at 32 front (k - from) first in
    let step : from + (k - from + 1) ≡ k + 1 = omega (arith, low) in
    record {
      low = low;
      high = high;
      word = sym cut.1;
      more = sym cut.2;
      left = sym (cut.3 ∙ drop-drop (k - from + 1) from text ∙ ap (λ n. drop n text) step);
      after = record { within = omega (arith, high); places = next.others ∙ ap (places_between (is_byte 32) text (k + 1)) end };
    }

-- the last word
pub record IsLastWord (text : List ℕ) (from : ℕ) (rest : List ℕ) : Type 0 where
  pub word : take (length text - from) (drop from text) ≡ until 32 (drop from text)
  pub more : false ≡ has 32 (drop from text)
  pub left : drop (length text) text ≡ past 32 (drop from text)
  pub after : IsAt text (length text) rest

pub last_word : (text : List ℕ) (from : ℕ) (spaces rest : List ℕ) → IsAt text from spaces → spaces ≡ [] → rest ≡ [] → IsLastWord text from rest
last_word text from spaces rest at e r =
    let front : List ℕ = drop from text in
    let none = no_place (is_byte 32) text from (length text - from) (sym at.places ∙ e) in
    let free : has 32 front ≡ false = uncut 32 front (λ m l h p. none (from + m) (omega arith) (omega (arith, h, length-drop from text)) (passes-drop text from m p)) in
    let zero_left : length text - length text ≡ 0 = omega arith in
    record {
      word = take_all (length text - from) front (omega (arith, length-drop from text)) ∙ sym (all_until 32 front free);
      more = sym free;
      left = drop_all (length text) text (omega arith) ∙ sym (none_past 32 front free);
      after = record {
        within = omega arith;
        places = r ∙ sym (ap (places_from (is_byte 32) text (length text)) zero_left ∙ empty (is_byte 32) text (length text));
      };
    }
