-- The words of a line.
-- Rule of memcached: words are parted by spaces.
use Rattle.std.specs.Prelude.{ℕ, ◌+◌, ◌==◌, Bool, not, ◌&&◌, ◌||◌, nat_le, List, [], ◌∷◌, length, slice_index_or, codes, if◌then◌else◌}
use Rattle.std.specs.List.{filter, slice_split}
use Rattle.std.specs.Str.{bytes_eq}
use Rattle.rev_items.specs.Keys.{is_key}

-- the words of a line, parted by runs of spaces; only the space parts words
abbrev pub words : List ℕ → List (List ℕ)
words text = filter (λ w. not (length w == 0)) (slice_split (λ b. b == 32) text)

-- a word as a list, and none where it is empty
abbrev pub word_or_none : List ℕ → List (List ℕ)
word_or_none w = if length w == 0 then [] else w ∷ []

-- a word by its place from 0, empty where there is none
abbrev pub word : List (List ℕ) → ℕ → List ℕ
word ws i = slice_index_or ws i []

-- a key of at most 64 bytes
abbrev pub is_name : List ℕ → Bool
is_name w = nat_le (length w) 64 && is_key w

-- n words, or one more that is `noreply`
abbrev pub are_words : ℕ → List (List ℕ) → Bool
are_words n ws = (length ws == n) || ((length ws == n + 1) && bytes_eq (word ws n) (codes "noreply"))
