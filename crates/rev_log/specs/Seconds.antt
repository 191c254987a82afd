-- At which phase of a second the server's clock ticks, as votes tell it.
-- Rule of this project: 200 phases, 5 ms apart; a vote counts for each phase by which the clock ticked as often as it
-- says; and the middle of the longest run of phases with the most votes is taken.
use Rattle.std.specs.Prelude.{◌≡◌, ◌<◌, ◌≤◌, ℕ, suc, ◌+◌, ◌-◌, ◌*◌, ◌/◌, Bool, true, false, ◌==◌, nat_le, nat_lt, max, if◌then◌else◌, List, [], ◌∷◌, length, map, slice_index_or}
use Rattle.std.specs.List.{list_any}
use Rattle.rev_watch.specs.declared.event.Timestamp.{Timestamp}
use Rattle.rev_log.specs.declared.seconds.Runs.{Runs}

-- how often a clock of this phase has ticked at a time, since a second before second 0
abbrev pub ticks : ℕ → Timestamp → ℕ
ticks phase time = if nat_le (phase * 5000) time.microseconds then time.seconds + 1 else time.seconds

-- a clock of this phase ticks so often from one time to the other
abbrev pub counts_for : Timestamp → Timestamp → ℕ → ℕ → Bool
counts_for stored evicted elapsed phase = ticks phase evicted == ticks phase stored + elapsed

-- one vote more for a phase that it counts for
abbrev pub count : Timestamp → Timestamp → ℕ → ℕ → ℕ → ℕ
count stored evicted elapsed phase votes = if counts_for stored evicted elapsed phase then votes + 1 else votes

-- the votes of the phases from this one on, with one vote more
abbrev pub counted : Timestamp → Timestamp → ℕ → ℕ → List ℕ → List ℕ
counted stored evicted elapsed phase [] = []
counted stored evicted elapsed phase (n ∷ votes) = count stored evicted elapsed phase n ∷ counted stored evicted elapsed (suc phase) votes

-- half as many votes
abbrev pub half : ℕ → ℕ
half n = n / 2

-- where a phase has 65536 votes, each has half as many
abbrev pub aged : List ℕ → List ℕ
aged votes = if list_any (nat_le 65536) votes then map half votes else votes

-- the votes with one vote more
unfoldable pub voted : List ℕ → Timestamp → Timestamp → ℕ → List ℕ
voted votes stored evicted elapsed = aged (counted stored evicted elapsed 0 votes)

-- the most votes of a phase
abbrev pub most : List ℕ → ℕ
most [] = 0
most (n ∷ votes) = max n (most votes)

-- the runs of phases with the most votes, where one more phase has them or not
abbrev pub next_runs : Runs → ℕ → Bool → Runs
next_runs runs phase false = record { run = 0; start = runs.start; longest = runs.longest }
next_runs runs phase true =
    if nat_lt runs.longest (runs.run + 1) then record { run = runs.run + 1; start = phase + 1 - (runs.run + 1); longest = runs.run + 1 }
    else record { run = runs.run + 1; start = runs.start; longest = runs.longest }

-- so many phases from this one on have the most votes each
pub record IsRun (votes : List ℕ) (start count : ℕ) : Type 0 where
  pub within : start + count ≤ length votes
  pub best : (phase : ℕ) → start ≤ phase → phase < start + count → slice_index_or votes phase 0 ≡ most votes

-- the phase is the middle of the longest such run, and of the first one of that length
pub record IsMiddle (votes : List ℕ) (phase : ℕ) : Type 0 where
  pub start : ℕ
  pub count : ℕ
  pub run : IsRun votes start count
  pub longest : (other n : ℕ) → IsRun votes other n → n ≤ count
  pub first : (other : ℕ) → IsRun votes other count → start ≤ other
  pub middle : phase ≡ start + count / 2

-- the phase that is taken: 0 where there is no vote
pub record IsBest (votes : List ℕ) (phase : ℕ) : Type 0 where
  pub none : most votes ≡ 0 → phase ≡ 0
  pub some : 0 < most votes → IsMiddle votes phase

-- the second is that of a clock whose phase is the one that is taken
pub record IsSecond (votes : List ℕ) (time : Timestamp) (second : ℕ) : Type 0 where
  pub phase : ℕ
  pub best : IsBest votes phase
  pub told : second ≡ ticks phase time - 1
