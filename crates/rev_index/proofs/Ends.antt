-- One end more in a list of ends that lead to themselves.
use Rattle.std.specs.Prelude.{ℕ, ◌≡◌, ◌+◌, ◌<◌, Some, List, [], ◌∷◌, ◌++◌, length, zero, suc, refl, slice_get, slice_set}
use Rattle.std.proofs.Common.{◌∙◌, ap, sym, subst, arith, inl, inr}
use Rattle.std.proofs.lemmas.Bool.{cases_eq, cases_lt}
use Rattle.std.proofs.lemmas.List.{length-append, length-set}
use Rattle.rev_links.proofs.Grids.{slice_get-set_same, slice_get-set_other}
use Rattle.rev_links.specs.declared.places.RingPlace.TheVariants.{End}
use Rattle.rev_index.specs.Chains.{ChainLink}
use Rattle.rev_index.specs.Index.{AreEmpty}

get_before : {X : Type 0} (xs : List X) (y : X) (k : ℕ) → k < length xs → slice_get (xs ++ y ∷ []) k ≡ slice_get xs k
get_before [] y k l = absurd (omega (arith, l))
get_before (x ∷ xs) y zero l = refl
get_before (x ∷ xs) y (suc k) l = get_before xs y k (omega (arith, l))

get_last : {X : Type 0} (xs : List X) (y : X) (k : ℕ) → length xs ≡ k → slice_get (xs ++ y ∷ []) k ≡ Some y
get_last [] y zero e = refl
get_last [] y (suc k) e = absurd (omega (arith, e))
get_last (x ∷ xs) y zero e = absurd (omega (arith, e))
get_last (x ∷ xs) y (suc k) e = get_last xs y k (omega (arith, e))

abbrev end_of : ℕ → ChainLink
end_of n = record { previous = End (record { number = n }); next = End (record { number = n }) }

module _ (ends ends' : List ChainLink) (n : ℕ) (e : ends' ≡ ends ++ end_of n ∷ []) (count : length ends ≡ n) where
  pub count_more : length ends' ≡ n + 1
  count_more = ap length e ∙ (length-append ends (end_of n ∷ []) ∙ ap (λ k. k + 1) count)

  pub empty_more : AreEmpty ends → AreEmpty ends'
  empty_more h k l = elim (cases_lt k n) [
    | inl a ↦ ap (λ xs. slice_get xs k) e ∙ (get_before ends (end_of n) k (omega (arith, a, count)) ∙ h k (omega (arith, a, count)))
    | inr b ↦ subst (λ m. slice_get ends' m ≡ Some (end_of m)) (omega (arith, b, l, count_more)) (ap (λ xs. slice_get xs n) e ∙ get_last ends (end_of n) n count)
  ]

-- the first n ends are those of empty buckets, of as many as there were
pub record Clears (before now : List ChainLink) (n : ℕ) : Type 0 where
  pub count : length now ≡ length before
  pub empty : (b : ℕ) → b < n → slice_get now b ≡ Some (end_of b)

pub clears_more : (before now now' : List ChainLink) (n : ℕ) → n < length before → now' ≡ slice_set now n (end_of n) → Clears before now n → Clears before now' (n + 1)
clears_more before now now' n l e h = record {
  count = ap length e ∙ (length-set now n (end_of n) ∙ h.count);
  empty = λ b m. ap (λ xs. slice_get xs b) e ∙ elim (cases_eq b n) [
    | inl u ↦ subst (λ k. slice_get (slice_set now n (end_of n)) k ≡ Some (end_of k)) (sym u) (slice_get-set_same now n (end_of n) (omega (arith, l, h.count)))
    | inr u ↦ slice_get-set_other now n b (end_of n) u ∙ h.empty b (omega (arith, m, u))
  ];
}
