-- A list that grows by all that an iterator gives.
use Rattle.std.proofs.Common.{◌≡◌, map, OnOk, Option, Result, MatchResult, List}
use Rattle.std.specs.Iterator.{Drains, Yields}
use Rattle.std.proofs.lemmas.Iterator.{YieldsList}
use Rattle.std.proofs.lemmas.Iterator.Adapters.{fact_from_extend}
use Rattle.std.proofs.lemmas.Iterator.Consumers.{YieldsList-at}

-- `extend` over a chain that starts at s and yields a known list
pub from_extend : {T A C E Q : Type 0} {steps : T → Option A → T → Type 0} {v : A → C} {all : List C} {P : List A → Type 0} {s : T} (r : Result (Unit {0}) E)
    → ((it : T) × (xs : List A) × (it ≡ s) × P xs × MatchResult r (λ _. Drains steps it xs) (λ _. (t : T) × Yields steps it xs t))
    → YieldsList steps v s all → ((xs : List A) → map v xs ≡ all → P xs → Q) → OnOk r Q
from_extend {v = v} r ran road says = fact_from_extend v r ran (λ it b. YieldsList-at b road) says
