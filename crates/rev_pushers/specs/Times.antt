-- Moments by the Unix clock, and the time between two.
-- Rule of this project: seconds are written with six decimals, or for people with one, and what is left is left off.
use Rattle.std.specs.Prelude.{ℕ, ◌+◌, ◌-◌, ◌*◌, ◌/◌, ◌%◌, List, [], ◌∷◌, ◌++◌, decimal}
use Rattle.rev_watch.specs.declared.event.Timestamp.{Timestamp}

-- how many microseconds of the Unix clock a moment is
abbrev pub micros : Timestamp → ℕ
micros t = t.seconds * 1000000 + t.microseconds

-- the microseconds from one moment to a later one, 0 where the later one is none
abbrev pub between : Timestamp → Timestamp → ℕ
between from to = micros to - micros from

-- a number in decimal digits
abbrev pub number_text : ℕ → List ℕ
number_text n = decimal n

-- the six digits of the microseconds that are no whole second
abbrev pub front_text : ℕ → List ℕ
front_text n = (decimal (n / 100000 % 10) ++ decimal (n / 10000 % 10)) ++ decimal (n / 1000 % 10)

abbrev pub back_text : ℕ → List ℕ
back_text n = (decimal (n / 100 % 10) ++ decimal (n / 10 % 10)) ++ decimal (n % 10)

-- seconds with six decimals
abbrev pub seconds_text : ℕ → List ℕ
seconds_text n = ((decimal (n / 1000000) ++ 46 ∷ []) ++ front_text n) ++ back_text n

-- seconds with one decimal
abbrev pub tenths_text : ℕ → List ℕ
tenths_text n = (decimal (n / 1000000) ++ 46 ∷ []) ++ decimal (n / 100000 % 10)

-- a moment in seconds
abbrev pub time_text : Timestamp → List ℕ
time_text t = seconds_text (micros t)
