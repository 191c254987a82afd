-- Lines in the order of their numbers, and the starts of the server between them.
-- Rule of memcached: the numbers of the lines begin at 1 where the server starts.
-- Rule of this project: by which line a start is told.
use Rattle.std.specs.Prelude.{ℕ, ◌+◌, ◌*◌, Bool, false, ◌&&◌, nat_lt, nat_le, if◌then◌else◌, Option, Some, None}
use Rattle.rev_watch.specs.declared.event.LogLine.{LogLine}
use Rattle.rev_watch.specs.declared.event.Timestamp.{Timestamp}
use Rattle.rev_watch.specs.declared.window.Put.{Put}
use Rattle.rev_watch.specs.declared.window.Put.TheVariants.{Held, Given, Late, Repeated}
use Rattle.rev_watch.specs.Window.{PlainWindow, empty_window, put_of, pop_of}
use Rattle.rev_log.specs.declared.order.Greatest.{Greatest}

-- what a contract sees of an order: the lines that are held, the greatest number so far with its time, and what was
-- counted
pub record PlainOrder (A : Type 0) : Type 0 where
  pub window : PlainWindow (LogLine A)
  pub greatest : Option Greatest
  pub late : ℕ
  pub repeated : ℕ

-- no line came
abbrev pub empty_order : {A : Type 0} → PlainOrder A
empty_order = record { window = empty_window; greatest = None; late = 0; repeated = 0 }

-- the microseconds from second 0 to a time
abbrev pub microseconds : Timestamp → ℕ
microseconds time = time.seconds * 1000000 + time.microseconds

-- a time is more than a second later than the one before
abbrev pub is_much_later : Timestamp → Timestamp → Bool
is_much_later before time = nat_lt (microseconds before + 1000000) (microseconds time)

-- one more, or as many where 64 bits hold no more
abbrev pub one_more : ℕ → ℕ
one_more n = if nat_lt n 18446744073709551615 then n + 1 else n

-- the server was started anew: the line's number is at most the greatest one so far, and its time is more than a second
-- later than that line's
abbrev pub is_restart : {A : Type 0} → Option Greatest → LogLine A → Bool
is_restart None line = false
is_restart (Some greatest) line = nat_le line.gid greatest.gid && is_much_later greatest.time line.time

-- the greatest number, where one more line came
abbrev pub greater : Option Greatest → ℕ → Timestamp → Option Greatest
greater None gid time = Some record { gid = gid; time = time }
greater (Some before) gid time = if nat_le gid before.gid then Some before else Some record { gid = gid; time = time }

-- what becomes of an order by what became of its window, and the line that is given out
abbrev pub counted : {A : Type 0} → PlainOrder A → PlainWindow (LogLine A) → Put (LogLine A) → PlainOrder A × Option (LogLine A)
counted order window Held = (record order { window = window }, None)
counted order window (Given gid line) = (record order { window = window }, Some line)
counted order window Late = (record order { window = window; late = one_more order.late }, None)
counted order window Repeated = (record order { window = window; repeated = one_more order.repeated }, None)

-- a line comes
unfoldable pub put_line : {A : Type 0} → PlainOrder A → LogLine A → PlainOrder A × Option (LogLine A)
put_line order line =
    let put = put_of order.window line.gid line in
    counted (record order { greatest = greater order.greatest line.gid line.time }) put.0 put.1

-- the line of what a window gave out
abbrev pub line_of : {A : Type 0} → Option (ℕ × LogLine A) → Option (LogLine A)
line_of None = None
line_of (Some given) = Some given.1

-- the line of the lowest number is taken
unfoldable pub pop_line : {A : Type 0} → PlainOrder A → PlainOrder A × Option (LogLine A)
pop_line order =
    let given = pop_of order.window in
    (record order { window = given.0 }, line_of given.1)
