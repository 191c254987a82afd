-- What the links of a member tell of its neighbours in the list.
use Rattle.std.proofs.Common.{◌≡◌, Bool, true, false, cond, Option, Some, None, List, [], ◌∷◌, inl, inr, refl, sym, ◌∙◌, ap, slice_get}
use Rattle.rev_links.specs.declared.places.RingPlace.{RingPlace}
use Rattle.rev_links.specs.declared.places.RingPlace.TheVariants.{End, At}
use Rattle.rev_links.specs.Rings.{member_of, Path, In}
use Rattle.rev_links.proofs.Members.{Tells, before_from, before_of, place_or}
use Rattle.rev_links.specs.Neighbours.{behind_of}

-- the member that a place names is the one that it was made of
pub member_place : {E X : Type 0} (e : E) (o : Option X) → member_of (Some (place_or e o)) ≡ o
member_place e None = refl
member_place e (Some x) = refl

module _ {E X : Type 0} (eq : X → X → Bool) (tells : Tells eq) (next previous : RingPlace E X → Option (RingPlace E X)) where
  before_path_from : (e : E) (last : Option X) (xs : List X) (q : RingPlace E X) (x : X) → Path next previous (place_or e last) xs q → In x xs
      → previous (At x) ≡ Some (place_or e (before_from eq x last xs))
  before_path_from e last [] q x h m = absurd m
  before_path_from e last (y ∷ ys) q x h m = go (eq x y) refl (λ m'. before_path_from e (Some y) ys q x h.1 m')
    where
      go : (b : Bool) → eq x y ≡ b → (In x ys → previous (At x) ≡ Some (place_or e (before_from eq x (Some y) ys)))
          → previous (At x) ≡ Some (place_or e (cond b last (before_from eq x (Some y) ys)))
      go true t ih = ap (λ z. previous (At z)) (tells.same x y t) ∙ h.0.back
      go false t ih = ih (elim m [ inl u ↦ absurd (tells.apart x y t (sym u)) | inr w ↦ w ])

  -- the place before a member, in a list from an end
  pub before_path : (e : E) (xs : List X) (q : RingPlace E X) (x : X) → Path next previous (End e) xs q → In x xs → previous (At x) ≡ Some (place_or e (before_of eq x xs))
  before_path e xs q x h m = before_path_from e None xs q x h m

  -- the place behind a path's first place
  pub first_path : (p : RingPlace E X) (xs : List X) (e : E) → Path next previous p xs (End e) → next p ≡ Some (place_or e (slice_get xs 0))
  first_path p [] e h = h.onward
  first_path p (x ∷ xs) e h = h.0.onward

  -- the place behind a member, in a list to an end
  pub behind_path : (p : RingPlace E X) (xs : List X) (e : E) (x : X) → Path next previous p xs (End e) → In x xs → next (At x) ≡ Some (place_or e (behind_of eq x xs))
  behind_path p [] e x h m = absurd m
  behind_path p (y ∷ ys) e x h m = go (eq x y) refl (λ m'. behind_path (At y) ys e x h.1 m')
    where
      go : (b : Bool) → eq x y ≡ b → (In x ys → next (At x) ≡ Some (place_or e (behind_of eq x ys)))
          → next (At x) ≡ Some (place_or e (cond b (slice_get ys 0) (behind_of eq x ys)))
      go true t ih = ap (λ z. next (At z)) (tells.same x y t) ∙ first_path (At y) ys e h.1
      go false t ih = ih (elim m [ inl u ↦ absurd (tells.apart x y t (sym u)) | inr w ↦ w ])
