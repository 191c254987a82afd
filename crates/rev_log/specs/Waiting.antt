-- How the events that wait are found: by tables of keys and connections, and by lists beside them.
-- Rule of this project: what stands where.
use Rattle.std.specs.Prelude.{◌≡◌, ◌^◌, ◌<◌, ℕ, suc, ℤ, ◌+◌, ◌-◌, Bool, ◌&&◌, nat_le, cond, drop, if◌then◌else◌, List, [], ◌∷◌, length, map, slice_get, slice_set, Option, Some, None}
use Rattle.std.specs.List.{list_any}
use Rattle.std.specs.Map.{lookup}
use Rattle.std.specs.Option.{option_map}
use Rattle.std.specs.Ordering.{int_eq}
use Rattle.std.specs.Str.{bytes_eq}
use Rattle.rev_watch.specs.declared.event.Event.{Event}
use Rattle.rev_log.specs.Events.{key_of, names, is_of, is_look_up, move_source}
use Rattle.rev_log.specs.Foresight.{mark, Numbered}
use Rattle.rev_log.specs.Spans.{noted, with_first}
use Rattle.rev_log.specs.declared.coming.Coming.{Coming}
use Rattle.rev_log.specs.declared.spans.Span.{Span}
use Rattle.rev_log.specs.declared.spans.Stored.{Stored}

-- ---- places

-- their events alone
abbrev pub events : {A : Type 0} → List (Coming A) → List (Event A)
events xs = map (λ x. x.line.event) xs

-- the place of the event of this number among those that wait
abbrev pub place_of : ℕ → ℕ → Option ℕ
place_of first number = if nat_le first number then Some (number - first) else None

-- what stands at a place, where there is one
abbrev pub at_place : {X : Type 0} → Option ℕ → List X → Option X
at_place None xs = None
at_place (Some place) xs = slice_get xs place

-- the event of this number
abbrev pub at_number : {A : Type 0} → ℕ → List (Coming A) → ℕ → Option (Coming A)
at_number first xs number = at_place (place_of first number) xs

-- the event at this place is marked, where it is a look-up of the key
abbrev pub mark_here : {A : Type 0} → List ℕ → Option (Coming A) → ℕ → List (Coming A) → List (Coming A)
mark_here key None place xs = xs
mark_here key (Some x) place xs = slice_set xs place (mark key x)

abbrev pub mark_place : {A : Type 0} → List ℕ → Option ℕ → List (Coming A) → List (Coming A)
mark_place key None xs = xs
mark_place key (Some place) xs = mark_here key (slice_get xs place) place xs

-- the same by the number of the event, where there is one
abbrev pub mark_number : {A : Type 0} → ℕ → List ℕ → Option ℕ → List (Coming A) → List (Coming A)
mark_number first key None xs = xs
mark_number first key (Some number) xs = mark_place key (place_of first number) xs

-- ---- keys

-- the number of the first event that names the key, where the first one of all has number `n`
abbrev pub first_at : {A : Type 0} → List ℕ → ℕ → List (Event A) → Option ℕ
first_at key n [] = None
first_at key n (e ∷ es) = if names key e then Some n else first_at key (suc n) es

abbrev pub or_here : Option ℕ → Bool → ℕ → Option ℕ
or_here None here n = if here then Some n else None
or_here (Some m) here n = Some m

-- the number of the last one
abbrev pub last_at : {A : Type 0} → List ℕ → ℕ → List (Event A) → Option ℕ
last_at key n [] = None
last_at key n (e ∷ es) = or_here (last_at key (suc n) es) (names key e) n

-- the number of the first event that names it, where there is a key
abbrev pub next_at : {A : Type 0} → Option (List ℕ) → ℕ → List (Event A) → Option ℕ
next_at None n es = None
next_at (Some key) n es = first_at key n es

-- of each event the number of the next one that names its key
abbrev pub links : {A : Type 0} → ℕ → List (Event A) → List (Option ℕ)
links n [] = []
links n (e ∷ es) = next_at (key_of e) (suc n) es ∷ links (suc n) es

-- the event at this place leads to that number
abbrev pub link_place : Option ℕ → ℕ → List (Option ℕ) → List (Option ℕ)
link_place None number nexts = nexts
link_place (Some place) number nexts = slice_set nexts place (Some number)

-- the same by the number of the event, where there is one
abbrev pub link : ℕ → Option ℕ → ℕ → List (Option ℕ) → List (Option ℕ)
link first None number nexts = nexts
link first (Some before) number nexts = link_place (place_of first before) number nexts

-- a number, where there is one
abbrev pub joined : Option (Option ℕ) → Option ℕ
joined None = None
joined (Some number) = number

-- the number that the event of this one leads to
abbrev pub next_in : ℕ → List (Option ℕ) → ℕ → Option ℕ
next_in first nexts number = joined (at_place (place_of first number) nexts)

-- what a table has of a key
abbrev pub span_in : List (List ℕ × Span) → List ℕ → Option Span
span_in entries key = lookup (bytes_eq key) entries

-- the same, where there is a key
abbrev pub span_at : Option (List ℕ) → List (List ℕ × Span) → Option Span
span_at None entries = None
span_at (Some key) entries = span_in entries key

-- what a table has of a key `q` once one more event named a key
abbrev pub span_behind : Option (List ℕ) → List (List ℕ × Span) → ℕ → Bool → Option Stored → List ℕ → Option Span
span_behind None entries number leaves stored q = span_in entries q
span_behind (Some key) entries number leaves stored q = cond (bytes_eq key q) (Some (noted (span_in entries key) number leaves stored)) (span_in entries q)

-- what it has of a key once its first event is gone, and this is the next one
abbrev pub span_with : Option ℕ → Option Span → Option Span
span_with None span = None
span_with (Some next) span = option_map (with_first next) span

-- what a table has of a key `q` once the first event, which names a key, is gone
abbrev pub span_without : Option (List ℕ) → List (List ℕ × Span) → Option ℕ → List ℕ → Option Span
span_without None entries next q = span_in entries q
span_without (Some key) entries next q = cond (bytes_eq key q) (span_with next (span_in entries key)) (span_in entries q)

-- ---- connections

-- the number of the last line of a connection, where it is a look-up
abbrev pub look_up_at : {A : Type 0} → ℤ → ℕ → List (Event A) → Option ℕ
look_up_at connection n [] = None
look_up_at connection n (e ∷ es) =
    if list_any (is_of connection) es then look_up_at connection (suc n) es
    else (if is_of connection e && is_look_up e then Some n else None)

-- a number of an event that still waits
abbrev pub live : ℕ → Option ℕ → Option ℕ
live first None = None
live first (Some n) = if nat_le first n then Some n else None

-- what a table has of a connection
abbrev pub number_in : List (ℤ × ℕ) → ℤ → Option ℕ
number_in entries connection = lookup (int_eq connection) entries

-- what it has of a connection `c` once one more line came, which may be of a connection
abbrev pub number_behind : Option ℤ → Bool → ℕ → List (ℤ × ℕ) → ℤ → Option ℕ
number_behind None look_up number entries c = number_in entries c
number_behind (Some connection) look_up number entries c = cond (int_eq connection c) (if look_up then Some number else None) (number_in entries c)

-- the last line of the connection is marked by what the table has, where a command follows it
abbrev pub mark_for : {A : Type 0} → ℕ → Option ℤ → Option (List ℕ) → List (ℤ × ℕ) → List (Coming A) → List (Coming A)
mark_for first None key entries xs = xs
mark_for first (Some connection) None entries xs = xs
mark_for first (Some connection) (Some key) entries xs = mark_number first key (number_in entries connection) xs

-- ---- page moves

abbrev pub move_here : Option ℕ → ℕ → List (ℕ × ℕ) → List (ℕ × ℕ)
move_here None n moves = moves
move_here (Some source) n moves = (n, source) ∷ moves

-- the page moves: their numbers, and the classes that they are from
abbrev pub moves_at : {A : Type 0} → ℕ → List (Event A) → List (ℕ × ℕ)
moves_at n [] = []
moves_at n (e ∷ es) = move_here (move_source e) n (moves_at (suc n) es)

-- without the first page move, where the first event is one
abbrev pub moves_behind : Option ℕ → List (ℕ × ℕ) → List (ℕ × ℕ)
moves_behind None moves = moves
moves_behind (Some source) moves = drop 1 moves

-- ---- all

-- tables and lists say of the events that wait what is so
pub record IsSound {A : Type 0} (first : ℕ) (waiting : List (Coming A)) (nexts : List (Option ℕ)) (moves : List (ℕ × ℕ)) (keys : List (List ℕ × Span)) (connections : List (ℤ × ℕ)) : Type 0 where
  pub fits : first + length waiting < 2 ^ 64
  pub numbered : Numbered first waiting
  pub linked : nexts ≡ links first (events waiting)
  pub moved : moves ≡ moves_at first (events waiting)
  pub firsts : (key : List ℕ) → option_map (λ s. s.first) (span_in keys key) ≡ first_at key first (events waiting)
  pub lasts : (key : List ℕ) → option_map (λ s. s.last) (span_in keys key) ≡ last_at key first (events waiting)
  pub looked_up : (connection : ℤ) → live first (number_in connections connection) ≡ look_up_at connection first (events waiting)
