-- What is told of a work while it goes on.
-- Rule of this project: the word that asks for it, and a line of it, which is written over the one before.
use Rattle.std.specs.Prelude.{ℕ, ◌*◌, ◌/◌, min, max, Bool, false, ◌||◌, cond, nat_eq, List, [], ◌∷◌, Option, None, Some, codes, decimal}
use Rattle.std.specs.Str.{bytes_eq}
use Rattle.rev_messages.specs.Telling.{joined}

-- a word is `--progress`
abbrev pub asks_progress : List (List ℕ) → Bool
asks_progress [] = false
asks_progress (word ∷ words) = bytes_eq word (codes "--progress") || asks_progress words

-- so much of a size was read, in per cent, where that is known and some
abbrev pub percent : ℕ → Option ℕ → Option ℕ
percent bytes None = None
percent bytes (Some size) = cond (nat_eq size 0) None (Some (min (bytes * 100 / size) 100))

-- so many lines a second, by the lines of so many milliseconds
abbrev pub rate : ℕ → ℕ → ℕ
rate lines millis = lines * 1000 / max millis 1

-- the line: how many lines were read, how much that is of all, and how many came a second; what stood there goes
abbrev pub progress_text : ℕ → Option ℕ → ℕ → List ℕ
progress_text lines None rate =
    joined (codes "\rlrudb: " ∷ decimal lines ∷ codes " lines, " ∷ decimal rate ∷ codes " a second\u{1b}[K" ∷ [])
progress_text lines (Some percent) rate =
    joined (codes "\rlrudb: " ∷ decimal lines ∷ codes " lines, " ∷ decimal percent ∷ codes "%, " ∷ decimal rate ∷ codes " a second\u{1b}[K" ∷ [])
