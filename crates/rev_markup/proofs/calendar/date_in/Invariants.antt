use Rattle.std.proofs.Common.{◌≡◌, ◌≤◌, ◌<◌, ◌+◌, ◌-◌, ℕ}
use Rattle.rev_markup.specs.Calendar as rule
use Rattle.rev_markup.proofs.calendar.date_in.Given as goal

-- so many days of the year stand in the months before this one
pub record Passed (year day month rest : ℕ) : Type 0 where
  pub count : rule.days_of_months year (month - 1) + rest ≡ day
  pub first : 1 ≤ month
  pub last : month ≤ 12

abbrev pub invariant-months : goal.invariant-months
invariant-months l = Passed l.fn.of.year l.fn.of.day l.month l.rest

abbrev pub decreases-months : goal.decreases-months
decreases-months l = 12 - l.month
