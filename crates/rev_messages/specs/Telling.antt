-- What the user was told.
-- Rule of this project: the whole text, or a front of it where a write failed.
use Rattle.std.specs.Prelude.{◌≡◌, ℕ, List, [], ◌∷◌, ◌++◌, Option}
use Rattle.std.specs.Io.KnownBytes.{Appends}
use Rattle.rev_output.specs.Sink.{WroteFront}

-- a front, and the parts behind it
abbrev pub joined_to : List ℕ → List (List ℕ) → List ℕ
joined_to front [] = front
joined_to front (x ∷ xs) = joined_to (front ++ x) xs

-- the parts, one behind another
abbrev pub joined : List (List ℕ) → List ℕ
joined [] = []
joined (x ∷ xs) = joined_to x xs

-- a front of the text was written; where as many writes have failed as before, the whole text, and nothing else
pub record Told (old new : Option (List ℕ)) (before after : ℕ) (text : List ℕ) : Type 0 where
  pub front : WroteFront old new text
  pub whole : after ≡ before → Appends old new text
