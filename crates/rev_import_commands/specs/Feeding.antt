-- What a script that is made bit by bit gives.
-- Rule of this project: a feed's bytes are read in their order, and none is lost.
use Rattle.std.specs.Prelude.{◌≡◌, ℕ, List, ◌++◌, Option, None, Some}

-- where it was known what a feed has, that is what it wrote behind the others, and then what it has left
abbrev pub Feeds : Option (List ℕ) → Option (List ℕ) → List ℕ → List ℕ → Type 0
Feeds None new before after = Unit {0}
Feeds (Some all) None before after = ⊥
Feeds (Some all) (Some rest) before after = (fed : List ℕ) × (after ≡ before ++ fed) × (all ≡ fed ++ rest)
