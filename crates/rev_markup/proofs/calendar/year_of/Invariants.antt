use Rattle.std.proofs.Common.{◌≡◌, ◌≤◌, ◌<◌, ◌+◌, ◌-◌, ℕ}
use Rattle.rev_markup.specs.Calendar as rule
use Rattle.rev_markup.proofs.calendar.year_of.Given as goal

pub record Counted (year rest day : ℕ) : Type 0 where
  pub years : 1970 ≤ year
  pub count : rule.days_of_years (year - 1970) + rest ≡ day
  pub few : (year - 1970) + rest ≤ day

abbrev pub invariant-years : goal.invariant-years
invariant-years l = Counted l.year l.rest l.fn.day

abbrev pub decreases-years : goal.decreases-years
decreases-years l = l.rest
