-- Members of a list: what stands before one, and how one leaves and enters; and when a test tells members apart.
use Rattle.std.specs.Prelude.{Bool, cond, Option, Some, None, List, [], ◌∷◌, ◌≡◌, ◌≢◌, true, false}
use Rattle.rev_links.specs.declared.places.RingPlace.{RingPlace}
use Rattle.rev_links.specs.declared.places.RingPlace.TheVariants.{End, At}

-- what stands before the first x, where `last` stands before the list
abbrev pub before_from : {X : Type 0} → (X → X → Bool) → X → Option X → List X → Option X
before_from eq x last [] = last
before_from eq x last (y ∷ ys) = cond (eq x y) last (before_from eq x (Some y) ys)

abbrev pub before_of : {X : Type 0} → (X → X → Bool) → X → List X → Option X
before_of eq x ys = before_from eq x None ys

-- the place of a member, or of an end where there is none
abbrev pub place_or : {E X : Type 0} → E → Option X → RingPlace E X
place_or e None = End e
place_or e (Some x) = At x

-- the list without the first x
abbrev pub without : {X : Type 0} → (X → X → Bool) → X → List X → List X
without eq x [] = []
without eq x (y ∷ ys) = cond (eq x y) ys (y ∷ without eq x ys)

-- the list with x behind the first y
abbrev pub insert_behind : {X : Type 0} → (X → X → Bool) → X → X → List X → List X
insert_behind eq x y [] = []
insert_behind eq x y (z ∷ zs) = cond (eq y z) (z ∷ x ∷ zs) (z ∷ insert_behind eq x y zs)

-- the list with x behind a member, or in front
abbrev pub insert : {X : Type 0} → (X → X → Bool) → X → Option X → List X → List X
insert eq x None xs = x ∷ xs
insert eq x (Some y) xs = insert_behind eq x y xs

-- a test that decides whether two members are the same
pub record Tells {X : Type 0} (eq : X → X → Bool) : Type 0 where
  pub same : (x y : X) → eq x y ≡ true → x ≡ y
  pub apart : (x y : X) → eq x y ≡ false → x ≢ y
