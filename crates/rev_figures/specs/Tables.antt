-- The tables of a report, over the rows of a path.
-- Rule of this project: what a report counts of the steps and of the keys that left.
use Rattle.std.specs.Prelude.{ℕ, ◌+◌, ◌-◌, ◌/◌, ◌^◌, fold, Bool, true, not, cond, ◌&&◌, ◌||◌, ◌≡◌, nat_eq, nat_lt, min, List, Option, None, Some, map, length, slice_get}
use Rattle.std.specs.List.{filter, count_by}
use Rattle.std.specs.List.Sorted.{IsPermutation, IsSorted}
use Rattle.std.specs.Ordering.{nat_cmp}
use Rattle.rev_model.specs.declared.Cause.{Cause}
use Rattle.rev_model.specs.declared.Cause.TheVariants.{Evicted, ReclaimedByPull, ReclaimedByCrawler, ReclaimedByHit, ReclaimedByMover, EvictedByMover, Deleted, DroppedByFailedSet}
use Rattle.rev_figures.specs.declared.path.Leaving.{Leaving}
use Rattle.rev_figures.specs.declared.path.PathStep.{PathStep}
use Rattle.rev_figures.specs.declared.path.StepKind.{StepKind}
use Rattle.rev_figures.specs.declared.path.StepKind.TheVariants as kind
use Rattle.rev_figures.specs.declared.tables.CauseCounts.{CauseCounts}
use Rattle.rev_figures.specs.declared.tables.Which.{Which}
use Rattle.rev_figures.specs.declared.tables.Which.TheVariants.{By, AllEvicted, Unfetched, Asked}

-- the number of a cause
abbrev pub cause_number : Cause → ℕ
cause_number Evicted = 0
cause_number ReclaimedByPull = 1
cause_number ReclaimedByCrawler = 2
cause_number ReclaimedByHit = 3
cause_number ReclaimedByMover = 4
cause_number EvictedByMover = 5
cause_number Deleted = 6
cause_number DroppedByFailedSet = 7

-- the number of a kind
abbrev pub kind_number : StepKind → ℕ
kind_number kind.Stored = 0
kind_number kind.Hit = 1
kind_number kind.Miss = 2
kind_number kind.Other = 3

-- of this class, or of any
abbrev pub is_of : Option ℕ → ℕ → Bool
is_of None d = true
is_of (Some c) d = nat_eq c d

-- evicted, by a set or by the page mover
abbrev pub is_eviction : Cause → Bool
is_eviction c = nat_eq (cause_number c) 0 || nat_eq (cause_number c) 5

-- one of the keys that are counted
abbrev pub is_one : Which → Leaving → Bool
is_one (By c) l = nat_eq (cause_number c) (cause_number l.cause)
is_one AllEvicted l = is_eviction l.cause
is_one Unfetched l = is_eviction l.cause && not l.fetched
is_one Asked l = is_eviction l.cause && nat_lt 0 l.asks

-- one that left the class
abbrev pub is_counted : Option ℕ → Which → Leaving → Bool
is_counted c w l = is_of c l.class && is_one w l

-- how many keys left the class so
abbrev pub count_left : Option ℕ → Which → List Leaving → ℕ
count_left c w ls = count_by (is_counted c w) ls

-- how many keys left it by each cause
abbrev pub cause_counts : Option ℕ → List Leaving → CauseCounts
cause_counts c ls = record {
  evicted = count_left c (By Evicted) ls;
  evicted_by_mover = count_left c (By EvictedByMover) ls;
  reclaimed_by_pull = count_left c (By ReclaimedByPull) ls;
  reclaimed_by_crawler = count_left c (By ReclaimedByCrawler) ls;
  reclaimed_by_hit = count_left c (By ReclaimedByHit) ls;
  reclaimed_by_mover = count_left c (By ReclaimedByMover) ls;
  deleted = count_left c (By Deleted) ls;
  dropped_by_failed_set = count_left c (By DroppedByFailedSet) ls;
}

-- a step of this kind on a key of the class
abbrev pub is_step : Option ℕ → StepKind → PathStep → Bool
is_step c k s = is_of c s.class && nat_eq (kind_number k) (kind_number s.kind)

-- how many steps did this with a key of the class
abbrev pub count_steps : Option ℕ → StepKind → List PathStep → ℕ
count_steps c k ss = count_by (is_step c k) ss

-- a count with the look-ups more that missed a key, if it left the class: at most the highest number of 64 bits
abbrev pub count_missed : ℕ → ℕ → Leaving → ℕ
count_missed c n l = cond (nat_eq c l.class) (min (n + l.asks) (2 ^ 64 - 1)) n

-- how many look-ups missed keys that had left the class last
abbrev pub count_misses : ℕ → List Leaving → ℕ
count_misses c ls = fold (count_missed c) 0 ls

-- the seconds that are told of a key that left: until it was asked for again, or since it was used
abbrev pub wait : Which → Leaving → ℕ
wait Asked l = l.asked_after
wait (By c) l = l.idle
wait AllEvicted l = l.idle
wait Unfetched l = l.idle

-- the same of all that left the class
abbrev pub waits : Option ℕ → Which → List Leaving → List ℕ
waits c w ls = map (wait w) (filter (is_counted c w) ls)

-- the median of these numbers: the one in the middle of their order, the higher of two; none of none
pub record IsMedian (xs : List ℕ) (m : Option ℕ) : Type 0 where
  pub ordered : List ℕ
  pub same : IsPermutation xs ordered
  pub sorted : IsSorted nat_cmp ordered
  pub median : m ≡ slice_get ordered (length ordered / 2)

-- the clock after a step, t where there is none
abbrev pub second_of : ℕ → Option PathStep → ℕ
second_of t None = t
second_of t (Some s) = s.second

-- the clock after the last of these steps, t where there is none
abbrev pub last_second : ℕ → List PathStep → ℕ
last_second t ss = second_of t (slice_get ss (length ss - 1))
