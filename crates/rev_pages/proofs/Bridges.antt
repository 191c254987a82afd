-- The words for lists of the model and those of the theory of rings say the same.
use Rattle.std.proofs.Common.{◌≡◌, Bool, true, false, cond, Option, Some, None, IfSome, List, [], ◌∷◌, ◌⊎◌, inl, inr, refl, sym, ◌∙◌, ap}
use Rattle.rev_links.specs.Rings.{In}
use Rattle.rev_links.proofs.Members.{Tells, without as left, insert_behind as entered_behind, insert as entered, before_of, before_from as stands_from}
use Rattle.rev_model.specs.Lists.{has, without, before, before_from, behind, insert, has_after}

module _ {X : Type 0} (same : X → X → Bool) where
  pub left-without : (x : X) (xs : List X) → left same x xs ≡ without same x xs
  left-without x [] = refl
  left-without x (y ∷ ys) = ap (λ zs. cond (same x y) ys (y ∷ zs)) (left-without x ys)

  stands-before : (x : X) (last : Option X) (xs : List X) → stands_from same x last xs ≡ before_from same x last xs
  stands-before x last [] = refl
  stands-before x last (y ∷ ys) = ap (cond (same x y) last) (stands-before x (Some y) ys)

  pub before-same : (x : X) (xs : List X) → before_of same x xs ≡ before same x xs
  before-same x xs = stands-before x None xs

  entered-behind : (x y : X) (xs : List X) → has same y xs ≡ true → entered_behind same x y xs ≡ behind same y x xs
  entered-behind x y [] h = cc
  entered-behind x y (z ∷ zs) h = go (same y z) refl (λ k. entered-behind x y zs k)
    where
      go : (b : Bool) → same y z ≡ b → (has same y zs ≡ true → entered_behind same x y zs ≡ behind same y x zs)
          → cond b (z ∷ x ∷ zs) (z ∷ entered_behind same x y zs) ≡ cond b (z ∷ x ∷ zs) (z ∷ behind same y x zs)
      go true t ih = refl
      go false t ih = ap (λ us. z ∷ us) (ih (ap (λ b. cond b true (has same y zs)) (sym t) ∙ h))

  -- where the one before stands in the list
  pub entered-insert : (x : X) (after : Option X) (xs : List X) → has_after same after xs ≡ true → entered same x after xs ≡ insert same x after xs
  entered-insert x None xs h = refl
  entered-insert x (Some y) xs h = entered-behind x y xs h

module _ {X : Type 0} (same : X → X → Bool) (tells : Tells same) where
  self : (x : X) → same x x ≡ true
  self x = go (same x x) refl
    where
      go : (b : Bool) → same x x ≡ b → b ≡ true
      go true t = refl
      go false t = absurd (tells.apart x x t refl)

  pub has_in : (x : X) (xs : List X) → In x xs → has same x xs ≡ true
  has_in x [] m = absurd m
  has_in x (y ∷ ys) m = go (same x y) refl (λ k. has_in x ys k)
    where
      go : (b : Bool) → same x y ≡ b → (In x ys → has same x ys ≡ true) → cond b true (has same x ys) ≡ true
      go true t ih = refl
      go false t ih = ih (elim m [ inl u ↦ absurd (tells.apart x y t (sym u)) | inr w ↦ w ])

  pub in_has : (x : X) (xs : List X) → has same x xs ≡ true → In x xs
  in_has x [] h = cc
  in_has x (y ∷ ys) h = go (same x y) refl (λ k. in_has x ys k)
    where
      go : (b : Bool) → same x y ≡ b → (has same x ys ≡ true → In x ys) → (y ≡ x) ⊎ In x ys
      go true t ih = inl (sym (tells.same x y t))
      go false t ih = inr (ih (ap (λ b. cond b true (has same x ys)) (sym t) ∙ h))

  pub not_in : (x : X) (xs : List X) → has same x xs ≡ false → In x xs → ⊥
  not_in x xs h m = let k = has_in x xs m in cc

  pub not_has : (x : X) (xs : List X) → (In x xs → ⊥) → has same x xs ≡ false
  not_has x xs none = go (has same x xs) refl
    where
      go : (b : Bool) → has same x xs ≡ b → b ≡ false
      go true t = absurd (none (in_has x xs t))
      go false t = refl

  pub after_in : (after : Option X) (xs : List X) → has_after same after xs ≡ true → IfSome after (λ y. In y xs)
  after_in None xs h = tt
  after_in (Some y) xs h = in_has y xs h
