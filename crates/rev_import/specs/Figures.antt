-- What an import counts.
-- Rule of this project: a count stays at the most that 64 bits hold.
use Rattle.std.specs.Prelude.{ℕ, ◌+◌, nat_lt, if◌then◌else◌}
use Rattle.rev_import.specs.declared.figures.EventCounts.{EventCounts}
use Rattle.rev_import.specs.declared.figures.Figures.{Figures}

-- one more, or as many where 64 bits hold no more
abbrev pub one_more : ℕ → ℕ
one_more n = if nat_lt n 18446744073709551615 then n + 1 else n

-- no event was taken
abbrev pub no_events : EventCounts
no_events = record {
  look_ups = 0;
  stores = 0;
  deletions = 0;
  evictions = 0;
  page_moves = 0;
  crawl_ends = 0;
  connections = 0;
  unknown = 0;
}

-- nothing was counted
abbrev pub no_figures : Figures
no_figures = record {
  events = no_events;
  hits = 0;
  misses = 0;
  own_look_ups = 0;
  deletes_in_place = 0;
  deletes_late = 0;
  unexplained = 0;
  too_large = 0;
  other_classes = 0;
  lines = 0;
  unfit = 0;
}
