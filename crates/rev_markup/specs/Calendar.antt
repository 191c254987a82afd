-- The calendar by which a moment of the Unix clock is told.
-- Rule of this project: the Gregorian calendar from 1970 on, in UTC, a year and a month at a time.
use Rattle.std.specs.Prelude.{ℕ, zero, suc, ◌+◌, ◌-◌, ◌/◌, ◌%◌, ◌≤◌, ◌≡◌, Bool, cond, ◌&&◌, ◌||◌, nat_eq, not, List, ◌++◌, codes, decimal}
use Rattle.rev_markup.specs.Numbers.{two}
use Rattle.rev_markup.specs.declared.calendar.Date.{Date}

-- a year with a 29th of February
abbrev pub is_leap : ℕ → Bool
is_leap y = nat_eq (y % 4) 0 && (not (nat_eq (y % 100) 0) || nat_eq (y % 400) 0)

-- how many days a year has
abbrev pub year_days : ℕ → ℕ
year_days y = cond (is_leap y) 366 365

-- how many days the first n years from 1970 on have
abbrev pub days_of_years : ℕ → ℕ
days_of_years zero = 0
days_of_years (suc n) = days_of_years n + year_days (1970 + n)

-- how many days a month of a year has: 30 have April, June, September and November
abbrev pub month_days : ℕ → ℕ → ℕ
month_days y m = cond (nat_eq m 2) (cond (is_leap y) 29 28) (cond ((nat_eq m 4 || nat_eq m 6) || (nat_eq m 9 || nat_eq m 11)) 30 31)

-- how many days the first n months of a year have
abbrev pub days_of_months : ℕ → ℕ → ℕ
days_of_months y zero = 0
days_of_months y (suc n) = days_of_months y n + month_days y (n + 1)

-- the date is that of a day, counted from 0 on 1970-01-01
pub record IsDateOf (day : ℕ) (d : Date) : Type 0 where
  pub count : days_of_years (d.year - 1970) + days_of_months d.year (d.month - 1) + (d.day - 1) ≡ day
  pub years : 1970 ≤ d.year
  pub month_first : 1 ≤ d.month
  pub month_last : d.month ≤ 12
  pub day_first : 1 ≤ d.day
  pub day_last : d.day ≤ month_days d.year d.month

-- the time of day of a second, as 09:44:47
abbrev pub time_text : ℕ → List ℕ
time_text s = ((two (s % 86400 / 3600) ++ codes ":") ++ two (s % 86400 / 60 % 60)) ++ codes ":" ++ two (s % 86400 % 60)

-- a date, as 2026-11-28
abbrev pub date_text : Date → List ℕ
date_text d = ((decimal d.year ++ codes "-") ++ two d.month) ++ codes "-" ++ two d.day

-- date and time of a second stand behind a text, as 2026-11-28 09:44:47 UTC
pub record IsMoment (second : ℕ) (before after : List ℕ) : Type 0 where
  pub date : Date
  pub day : IsDateOf (second / 86400) date
  pub text : after ≡ ((before ++ date_text date) ++ codes " ") ++ time_text second ++ codes " UTC"
