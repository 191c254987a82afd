-- What is read of a list, entry by entry, stands in it.
use Rattle.std.proofs.Common.{slice_get, ◌≡◌, Bool, true, List, [], ◌∷◌, Option, None, Some, refl, inl, inr}
use Rattle.std.proofs.lemmas.Bool.{cases_Bool}
use Rattle.rev_model.specs.Lists.{has, has_after}
use Rattle.rev_inverse.specs.Reading.{next_after}
use Rattle.rev_links.specs.Neighbours.{behind_of}

module _ {X : Type 0} (same : X → X → Bool) (self : (x : X) → same x x ≡ true) where
  has-more : (e x : X) (xs : List X) → has same e xs ≡ true → has same e (x ∷ xs) ≡ true
  has-more e x xs h = elim (cases_Bool (same e x)) [
    | inl t ↦ rw t refl
    | inr f ↦ rw f h
  ]

  first-has : (xs : List X) (e : X) → slice_get xs 0 ≡ Some e → has same e xs ≡ true
  first-has [] e h = absurd (cc)
  first-has (x ∷ xs) e h = let p : x ≡ e = cc in rw p (rw (self e) refl)

  behind-has : (y : X) (xs : List X) (e : X) → behind_of same y xs ≡ Some e → has same e xs ≡ true
  behind-has y [] e h = absurd (cc)
  behind-has y (x ∷ xs) e h = elim (cases_Bool (same y x)) [
    | inl t ↦ has-more e x xs (first-has xs e (rw t at h))
    | inr f ↦ has-more e x xs (behind-has y xs e (rw f at h))
  ]

  pub next-has : (b : Option X) (xs : List X) (e : X) → next_after same b xs ≡ Some e → has_after same (Some e) xs ≡ true
  next-has None xs e h = first-has xs e h
  next-has (Some y) xs e h = behind-has y xs e h
