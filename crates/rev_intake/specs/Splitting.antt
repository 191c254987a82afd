-- Where a start ends, if a script begins with one. Rule of this project: in front of the first event, in their order,
-- whose second is that of the split or a later one. What stands behind it is the script, also where an event there has
-- an earlier second.
use Rattle.std.specs.Prelude.{ℕ, Bool, false, nat_le, if◌then◌else◌, [], Option, None, Some}
use Rattle.rev_import.specs.Becoming.{first_second}
use Rattle.rev_intake.specs.Intake.{PlainIntake}

-- an event of this second, if any comes, is the first one behind the start, if it has not ended yet
abbrev pub is_due : Option ℕ → Option ℕ → Bool
is_due None first = false
is_due (Some split) None = false
is_due (Some split) (Some first) = nat_le split first

-- all that waited was sent to the start, and it has ended
abbrev pub start_ended : {A : Type 0} → PlainIntake A → PlainIntake A
start_ended i = record i { waits = []; split = None; start_lines = i.figures.lines }

-- before the lines of the event that waits longest are written, the start ends where it ends in front of this event;
-- else nothing changes
abbrev pub split_off : {A : Type 0} → PlainIntake A → PlainIntake A
split_off i = if is_due i.split (first_second i.waiting) then start_ended i else i

-- the lines of events that stand in the start: all so far, where it has not ended
abbrev pub lines_before : Option ℕ → ℕ → ℕ → ℕ
lines_before None ended all = ended
lines_before (Some split) ended all = all

abbrev pub lines_of_start : {A : Type 0} → PlainIntake A → ℕ
lines_of_start i = lines_before i.split i.start_lines i.figures.lines

-- what a contract sees of two writers, one for a start and one for what stands behind it: whether the start has ended,
-- and how many writes and flushes failed, counted modulo 2 ^ 64
pub record PlainStartAndScript : Type 0 where
  pub is_behind : Bool
  pub failures : ℕ
