-- All lines of a log through a window.
use Rattle.std.specs.Prelude.{ℕ, ◌+◌, ◌<◌, Bool, cond, if◌then◌else◌, List, [], ◌∷◌, ◌++◌, Option, None, Some}
use Rattle.std.specs.Ordering.{nat_cmp, match_ordering}
use Rattle.rev_watch.specs.Window.{PlainWindow, put_of, is_late}
use Rattle.rev_watch.specs.declared.window.Put.{Put}
use Rattle.rev_watch.specs.declared.window.Put.TheVariants.{Held, Given, Late, Repeated}

-- what is given out when a line comes
abbrev pub given_line : {T : Type 0} → Put T → List (ℕ × T)
given_line Held = []
given_line (Given gid line) = (gid, line) ∷ []
given_line Late = []
given_line Repeated = []

-- what is given out as the lines come, and at the end all that is held
abbrev pub given : {T : Type 0} → PlainWindow T → List (ℕ × T) → List (ℕ × T)
given w [] = w.held
given w (line ∷ rest) = given_line (put_of w line.0 line.1).1 ++ given (put_of w line.0 line.1).0 rest

-- the line of this number, where it is held
abbrev pub replaced : {T : Type 0} → ℕ → List (ℕ × T) → List (ℕ × T)
replaced gid [] = []
replaced gid (e ∷ es) = match_ordering (nat_cmp gid e.0) [] (e ∷ []) (replaced gid es)

-- what is dropped when a line comes: the line where it is late, and else the one of its number that is held
abbrev pub dropped_line : {T : Type 0} → PlainWindow T → ℕ × T → List (ℕ × T)
dropped_line w line = if is_late line.0 w.last then line ∷ [] else replaced line.0 w.held

-- what is dropped as the lines come
abbrev pub dropped : {T : Type 0} → PlainWindow T → List (ℕ × T) → List (ℕ × T)
dropped w [] = []
dropped w (line ∷ rest) = dropped_line w line ++ dropped (put_of w line.0 line.1).0 rest

-- the number is above the last one that was given out
abbrev pub IsAfter : Option ℕ → ℕ → Type 0
IsAfter None gid = Unit {0}
IsAfter (Some last) gid = last < gid

-- the numbers rise strictly, from above the last one that was given out on
abbrev pub Ascends : {T : Type 0} → Option ℕ → List (ℕ × T) → Type 0
Ascends last [] = Unit {0}
Ascends last (line ∷ rest) = IsAfter last line.0 × Ascends (Some line.0) rest

-- how many of the lines pass a test
abbrev pub count : {T : Type 0} → (ℕ × T → Bool) → List (ℕ × T) → ℕ
count p [] = 0
count p (line ∷ rest) = cond (p line) 1 0 + count p rest
