-- Lines, each with its number, are held back and given out by rising numbers.
-- Rule of this project: how many are held back, and which line is late.
use Rattle.std.specs.Prelude.{ℕ, Bool, false, nat_le, is_some, if◌then◌else◌, List, [], ◌∷◌, length, Option, None, Some}
use Rattle.std.specs.BTreeMap.{insert_entry, is_at}
use Rattle.std.specs.Ordering.{nat_cmp}
use Rattle.std.specs.Map.{lookup}
use Rattle.rev_watch.specs.declared.window.Put.{Put}
use Rattle.rev_watch.specs.declared.window.Put.TheVariants.{Held, Given, Late, Repeated}

-- the lines that are held, by rising numbers, and the number of the last one that was given out
pub record PlainWindow (T : Type 0) : Type 0 where
  pub held : List (ℕ × T)
  pub last : Option ℕ

-- nothing held, nothing given out
abbrev pub empty_window : {T : Type 0} → PlainWindow T
empty_window = record { held = []; last = None }

-- a line of this number or of a higher one was given out
abbrev pub is_late : ℕ → Option ℕ → Bool
is_late gid None = false
is_late gid (Some last) = nat_le gid last

-- a line of this number is held
abbrev pub is_held : {T : Type 0} → ℕ → List (ℕ × T) → Bool
is_held gid held = is_some (lookup (is_at (nat_cmp gid)) held)

-- the first line of those that are held is given out
abbrev pub popped : {T : Type 0} → List (ℕ × T) → PlainWindow T → PlainWindow T × Option (ℕ × T)
popped [] w = (w, None)
popped (line ∷ rest) w = (record { held = rest; last = Some line.0 }, Some line)

-- the first line that is held is taken
unfoldable pub pop_of : {T : Type 0} → PlainWindow T → PlainWindow T × Option (ℕ × T)
pop_of w = popped w.held w

-- more than 65536 are not held: the first one of more is given out
abbrev pub full_of : {T : Type 0} → List (ℕ × T) → Option ℕ → PlainWindow T × Put T
full_of [] last = (record { held = []; last = last }, Held)
full_of (line ∷ rest) last = (record { held = rest; last = Some line.0 }, Given line.0 line.1)

-- a line comes
unfoldable pub put_of : {T : Type 0} → PlainWindow T → ℕ → T → PlainWindow T × Put T
put_of w gid line =
    let held = insert_entry nat_cmp w.held gid line in
    if is_late gid w.last then (w, Late)
    else (if is_held gid w.held then (record w { held = held }, Repeated)
    else (if nat_le (length held) 65536 then (record w { held = held }, Held)
    else full_of held w.last))
