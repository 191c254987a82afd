-- Which keys of a server are replayed.
-- Rule of this project: one key of so many, by its hash, and some whatever their hashes are.
use Rattle.std.specs.Prelude.{ℕ, Bool, ◌||◌, if◌then◌else◌, List, [], ◌∷◌, ◌++◌}
use Rattle.std.specs.List.{list_any}
use Rattle.std.specs.Str.{bytes_eq}
use Rattle.rev_choices.specs.Sample.{takes}

-- a sample: one key of so many, by its hash, and these keys whatever their hashes are
pub record PlainSampling : Type 0 where
  pub one_of : ℕ
  pub kept : List (List ℕ)

-- the key is in the sample
abbrev pub has : PlainSampling → List ℕ → Bool
has s key = takes s.one_of key || list_any (bytes_eq key) s.kept

-- the keys that are kept, and one more, unless it is one of them
abbrev pub with_key : List (List ℕ) → List ℕ → List (List ℕ)
with_key kept key = if list_any (bytes_eq key) kept then kept else kept ++ key ∷ []
