-- A test of two keys.
use Rattle.std.proofs.Common.{◌≡◌, ℕ, Bool, true, false, List, refl, ap, sym, ◌∙◌, inl, inr}
use Rattle.std.proofs.lemmas.Bool.{cases_Bool, false≢true}
use Rattle.rev_model.proofs.Laws.{same_key-self, same_key-exact}
use Rattle.rev_model.specs.Track.{same_key}

pub same_named : (r : Bool) (k l : List ℕ) → (r ≡ true → k ≡ l) → (k ≡ l → r ≡ true) → r ≡ same_key k l
same_named true k l a b = sym (ap (same_key k) (sym (a refl)) ∙ same_key-self k)
same_named false k l a b = elim (cases_Bool (same_key k l)) [
  | inl t ↦ absurd (false≢true (b (same_key-exact k l t)))
  | inr t ↦ sym t
]
