-- Sums over a list that loses a member or gets one, and when a mark is left in it.
use Rattle.std.proofs.Common.{◌≡◌, ℕ, ◌+◌, ◌*◌, ◌≤◌, Bool, true, false, cond, Option, Some, None, IfSome, List, [], ◌∷◌, length, map, inl, inr, refl, sym, ap, arith}
use Rattle.std.specs.List.{sum_by}
use Rattle.std.proofs.lemmas.List.Sums.{sum_by-cons}
use Rattle.rev_links.proofs.Members.{without, insert, insert_behind, Tells}
use Rattle.rev_links.specs.Rings.{In}

module _ {X : Type 0} (eq : X → X → Bool) (tells : Tells eq) (f : X → ℕ) where
  pub sum_without : (x : X) (xs : List X) → In x xs → sum_by f (without eq x xs) + f x ≡ sum_by f xs
  sum_without x [] m = absurd m
  sum_without x (y ∷ ys) m = go (eq x y) refl (λ m'. sum_without x ys m')
    where
      go : (b : Bool) → eq x y ≡ b → (In x ys → sum_by f (without eq x ys) + f x ≡ sum_by f ys) → sum_by f (cond b ys (y ∷ without eq x ys)) + f x ≡ sum_by f (y ∷ ys)
      go true t ih = let e : f x ≡ f y = ap f (tells.same x y t) in omega (arith, sum_by-cons f y ys)
      go false t ih =
          let m' : In x ys = elim m [ inl u ↦ absurd (tells.apart x y t (sym u)) | inr w ↦ w ] in
          let r = ih m' in omega (arith, sum_by-cons f y ys, sum_by-cons f y (without eq x ys))

  pub sum_insert_behind : (x y : X) (xs : List X) → In y xs → sum_by f (insert_behind eq x y xs) ≡ sum_by f xs + f x
  sum_insert_behind x y [] m = absurd m
  sum_insert_behind x y (z ∷ zs) m = go (eq y z) refl (λ m'. sum_insert_behind x y zs m')
    where
      go : (b : Bool) → eq y z ≡ b → (In y zs → sum_by f (insert_behind eq x y zs) ≡ sum_by f zs + f x) → sum_by f (cond b (z ∷ x ∷ zs) (z ∷ insert_behind eq x y zs)) ≡ sum_by f (z ∷ zs) + f x
      go true t ih = omega (arith, sum_by-cons f z zs, sum_by-cons f z (x ∷ zs), sum_by-cons f x zs)
      go false t ih =
          let m' : In y zs = elim m [ inl u ↦ absurd (tells.apart y z t (sym u)) | inr w ↦ w ] in
          let r = ih m' in omega (arith, sum_by-cons f z zs, sum_by-cons f z (insert_behind eq x y zs))

  pub sum_insert : (x : X) (after : Option X) (xs : List X) → IfSome after (λ y. In y xs) → sum_by f (insert eq x after xs) ≡ sum_by f xs + f x
  sum_insert x None xs i = omega (arith, sum_by-cons f x xs)
  sum_insert x (Some y) xs i = sum_insert_behind x y xs i

pub sum_agrees : {X : Type 0} (f g : X → ℕ) (xs : List X) → ((x : X) → In x xs → f x ≡ g x) → sum_by f xs ≡ sum_by g xs
sum_agrees f g [] h = refl
sum_agrees f g (x ∷ xs) h = let a = h x (inl refl) in let b = sum_agrees f g xs (λ y m. h y (inr m)) in omega (arith, sum_by-cons f x xs, sum_by-cons g x xs)

-- a sum of small numbers
pub sum_at_most : {X : Type 0} (f : X → ℕ) (m : ℕ) (xs : List X) → ((x : X) → In x xs → f x ≤ m) → sum_by f xs ≤ length xs * m
sum_at_most f m [] h = omega arith
sum_at_most f m (x ∷ xs) h = let a = h x (inl refl) in let b = sum_at_most f m xs (λ y k. h y (inr k)) in omega (arith, sum_by-cons f x xs)

pub map_agrees : {X Y : Type 0} (f g : X → Y) (xs : List X) → ((x : X) → In x xs → f x ≡ g x) → map f xs ≡ map g xs
map_agrees f g [] h = refl
map_agrees f g (x ∷ xs) h = let a = h x (inl refl) in let b = map_agrees f g xs (λ y m. h y (inr m)) in cc
