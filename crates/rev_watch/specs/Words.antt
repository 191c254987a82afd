-- The words of a line, and what stands in a word behind a name.
-- Rule of memcached: words `name=value`, parted by single spaces.
use Rattle.std.specs.Prelude.{ℕ, ◌==◌, if◌then◌else◌, List, [], ◌∷◌, length, take, drop, Option, None, Some}
use Rattle.std.specs.List.{slice_split, filter_map}
use Rattle.std.specs.Option.{option_and_then}
use Rattle.std.specs.Str.{bytes_eq}

-- parted by single spaces: a space at the end or a second one in a row makes an empty word
abbrev pub words : List ℕ → List (List ℕ)
words text = slice_split (λ b. b == 32) text

-- the rest of a text that begins with these bytes
abbrev pub rest_behind : List ℕ → List ℕ → Option (List ℕ)
rest_behind front text = if bytes_eq (take (length front) text) front then Some (drop (length front) text) else None

-- the rest of a text that begins with this byte
abbrev pub rest_behind_sign : ℕ → List ℕ → Option (List ℕ)
rest_behind_sign sign [] = None
rest_behind_sign sign (b ∷ rest) = if b == sign then Some rest else None

-- what stands behind a name and a sign, in a text that begins with them
unfoldable pub value_behind : List ℕ → ℕ → List ℕ → Option (List ℕ)
value_behind name sign text = option_and_then (rest_behind_sign sign) (rest_behind name text)

-- the values of all words of this name, `name=value`, in order (61 is `=`)
abbrev pub values : List ℕ → List (List ℕ) → List (List ℕ)
values name ws = filter_map (value_behind name 61) ws
