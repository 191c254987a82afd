-- The events that wait, as a list: the event of each number, and which of them names a key first.
-- Rule of this project: a look-up is a command's own where the next line of its connection is that command.
use Rattle.std.specs.Prelude.{◌≡◌, ◌<◌, ◌≤◌, ◌⊎◌, ℕ, suc, ℤ, ◌+◌, ◌-◌, Bool, true, false, ◌&&◌, nat_lt, if◌then◌else◌, List, [], ◌∷◌, ◌++◌, length, drop, slice_get, replicate, Option, Some, None}
use Rattle.std.specs.List.{list_any}
use Rattle.rev_watch.specs.declared.event.Event.{Event}
use Rattle.rev_watch.specs.declared.event.LogLine.{LogLine}
use Rattle.rev_watch.specs.declared.event.Timestamp.{Timestamp}
use Rattle.rev_log.specs.Events.{key_of, names, connection_of, is_of, is_look_up, commanded_key, moves_from, time_left}
use Rattle.rev_log.specs.Seconds.{voted}
use Rattle.rev_log.specs.declared.coming.Coming.{Coming}

-- what a contract sees of a foresight: how many events were given out, those that wait, and the votes for the phases of
-- the server's clock
pub record PlainForesight (A : Type 0) : Type 0 where
  pub first : ℕ
  pub waiting : List (Coming A)
  pub votes : List ℕ

-- no event came
abbrev pub empty_foresight : {A : Type 0} → PlainForesight A
empty_foresight = record { first = 0; waiting = []; votes = replicate 200 0 }

-- the events are numbered one by one, the first of them with this number
abbrev pub Numbered : {A : Type 0} → ℕ → List (Coming A) → Type 0
Numbered n [] = Unit {0}
Numbered n (x ∷ xs) = (x.number ≡ n) × Numbered (suc n) xs

-- ---- look-ups of commands

-- the event is marked as the command's own, where it is a look-up of the key
abbrev pub mark : {A : Type 0} → List ℕ → Coming A → Coming A
mark key x = if is_look_up x.line.event && names key x.line.event then record x { own = true } else x

-- the last line of the connection is marked, where it is a look-up of the key
abbrev pub marked : {A : Type 0} → ℤ → List ℕ → List (Coming A) → List (Coming A)
marked connection key [] = []
marked connection key (x ∷ xs) =
    if list_any (λ y. is_of connection y.line.event) xs then x ∷ marked connection key xs
    else (if is_of connection x.line.event then mark key x ∷ xs else x ∷ xs)

abbrev pub marked_for : {A : Type 0} → Option ℤ → Option (List ℕ) → List (Coming A) → List (Coming A)
marked_for None key xs = xs
marked_for (Some connection) None xs = xs
marked_for (Some connection) (Some key) xs = marked connection key xs

-- the events that wait, where the next line of a connection is this event
abbrev pub marked_by : {A : Type 0} → Event A → List (Coming A) → List (Coming A)
marked_by event xs = marked_for (connection_of event) (commanded_key event) xs

-- ---- events come and go

-- one more event waits
abbrev pub pushed : {A : Type 0} → PlainForesight A → LogLine A → List (Coming A)
pushed f line = marked_by line.event f.waiting ++ record { line = line; number = f.first + length f.waiting; own = false } ∷ []

-- an item that was stored at this time, with so many seconds to live, is evicted by this line, and votes
pub record Votes {A : Type 0} (old new : List ℕ) (line : LogLine A) : Type 0 where
  pub stored : Timestamp
  pub ttl : ℕ
  pub left : ℕ
  pub evicted : time_left line.event ≡ Some left
  pub less : left ≤ ttl
  pub voted_so : new ≡ voted old stored line.time (ttl - left)

-- an eviction may vote, and no other event does
abbrev pub MayVote : {A : Type 0} → List ℕ → List ℕ → LogLine A → Type 0
MayVote old new line = (new ≡ old) ⊎ Votes old new line

abbrev pub popped_from : {A : Type 0} → List (Coming A) → PlainForesight A → PlainForesight A × Option (Coming A)
popped_from [] f = (f, None)
popped_from (x ∷ xs) f = (record f { first = f.first + 1; waiting = xs }, Some x)

-- the event that waits longest is given out
abbrev pub popped : {A : Type 0} → PlainForesight A → PlainForesight A × Option (Coming A)
popped f = popped_from f.waiting f

-- ---- what comes

-- the first event that names the key
abbrev pub first_naming : {A : Type 0} → List ℕ → List (Coming A) → Option (Coming A)
first_naming key [] = None
first_naming key (x ∷ xs) = if names key x.line.event then Some x else first_naming key xs

-- the first event that names it, where there is a key
abbrev pub first_naming_any : {A : Type 0} → Option (List ℕ) → List (Coming A) → Option (Coming A)
first_naming_any None xs = None
first_naming_any (Some key) xs = first_naming key xs

-- the events that wait behind the one of this number
abbrev pub behind : {A : Type 0} → ℕ → PlainForesight A → List (Coming A)
behind number f = drop (suc number - f.first) f.waiting

-- the event waits here, or was given out before the others
abbrev pub IsOf : {A : Type 0} → PlainForesight A → Coming A → Type 0
IsOf f x = (x.number < f.first) ⊎ (slice_get f.waiting (x.number - f.first) ≡ Some x)

-- the next event that names the key of this one
abbrev pub next_of : {A : Type 0} → PlainForesight A → Coming A → Option (Coming A)
next_of f x = first_naming_any (key_of x.line.event) (behind x.number f)

-- a page move from this class waits in front of the event of this number
abbrev pub moves_before : {A : Type 0} → ℕ → ℕ → List (Coming A) → Bool
moves_before class number xs = list_any (λ x. nat_lt x.number number && moves_from class x.line.event) xs
