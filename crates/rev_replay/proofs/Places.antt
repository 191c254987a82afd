-- What comes of a place that is looked for.
use Rattle.std.proofs.Common.{◌≡◌, Option, None, Some, refl}
use Rattle.rev_replay.specs.Seeking.{PlainSought, Nowhere, End, Step, Second, Gone, place_of, IsPlaceOf}
use Rattle.rev_replay.specs.declared.seeking.Spot.{Spot}

pub is_place : (s : PlainSought) (found : Option Spot) → IsPlaceOf s (place_of s found)
is_place Nowhere found = refl
is_place End found = tt
is_place (Step step) None = tt
is_place (Step step) (Some spot) = refl
is_place (Second second) None = refl
is_place (Second second) (Some spot) = refl
is_place (Gone key) found = tt
