-- What stands behind a member of a list, and behind which place a member is put.
-- Rule of this project: places of lists that run through slots.
use Rattle.std.specs.Prelude.{Bool, cond, Option, Some, None, List, [], ◌∷◌, slice_get}
use Rattle.rev_links.specs.declared.places.RingPlace.{RingPlace}
use Rattle.rev_links.specs.declared.places.RingPlace.TheVariants.{End, At}

-- what stands behind the first x
abbrev pub behind_of : {X : Type 0} → (X → X → Bool) → X → List X → Option X
behind_of eq x [] = None
behind_of eq x (y ∷ ys) = cond (eq x y) (slice_get ys 0) (behind_of eq x ys)

-- the place that a member is put behind: another member, or the end of the list for its front
abbrev pub place_behind : {E X : Type 0} → E → Option X → RingPlace E X
place_behind c None = End c
place_behind c (Some y) = At y
