-- The figures of each class, counted in one pass over the rows of a path.
-- Rule of this project: what a report counts of a class, by the definitions of its tables.
use Rattle.std.specs.Prelude.{ℕ, ◌+◌, ◌-◌, ◌^◌, ◌≡◌, Bool, cond, min, nat_eq, List, Some, slice_get}
use Rattle.rev_model.specs.declared.Cause.TheVariants.{Evicted, ReclaimedByPull, ReclaimedByCrawler, ReclaimedByHit, ReclaimedByMover, EvictedByMover, Deleted, DroppedByFailedSet}
use Rattle.rev_figures.specs.Tables.{kind_number, is_one, cause_counts, count_left, count_steps, count_misses, waits, IsMedian}
use Rattle.rev_figures.specs.declared.path.Leaving.{Leaving}
use Rattle.rev_figures.specs.declared.path.PathStep.{PathStep}
use Rattle.rev_figures.specs.declared.path.StepKind.TheVariants as kind
use Rattle.rev_figures.specs.declared.tables.CauseCounts.{CauseCounts}
use Rattle.rev_figures.specs.declared.tables.Which.TheVariants.{By, AllEvicted, Unfetched, Asked}
use Rattle.rev_figures.specs.declared.classes.ClassFigures.{ClassFigures}
use Rattle.rev_figures.specs.declared.by_class.LeftCounts.{LeftCounts}
use Rattle.rev_figures.specs.declared.by_class.StepCounts.{StepCounts}

-- a number with so many more: at most the highest number of 64 bits
abbrev pub plus : ℕ → ℕ → ℕ
plus n m = min (n + m) (2 ^ 64 - 1)

-- a count with one more, if there is one
abbrev pub more : Bool → ℕ → ℕ
more b n = cond b (plus n 1) n

-- what is counted of the steps of class c
abbrev pub step_counts : ℕ → List PathStep → StepCounts
step_counts c ss = record { stores = count_steps (Some c) kind.Stored ss; hits = count_steps (Some c) kind.Hit ss }

-- the same with a step of the class more
abbrev pub with_step : StepCounts → PathStep → StepCounts
with_step n s = record {
  stores = more (nat_eq (kind_number kind.Stored) (kind_number s.kind)) n.stores;
  hits = more (nat_eq (kind_number kind.Hit) (kind_number s.kind)) n.hits;
}

-- what is counted of the keys that left class c
abbrev pub left_counts : ℕ → List Leaving → LeftCounts
left_counts c ls = record {
  misses = count_misses c ls;
  left = cause_counts (Some c) ls;
  evicted = count_left (Some c) AllEvicted ls;
  unfetched = count_left (Some c) Unfetched ls;
  asked = count_left (Some c) Asked ls;
}

-- how many keys left by each cause, with one more
abbrev pub with_cause : CauseCounts → Leaving → CauseCounts
with_cause n l = record {
  evicted = more (is_one (By Evicted) l) n.evicted;
  evicted_by_mover = more (is_one (By EvictedByMover) l) n.evicted_by_mover;
  reclaimed_by_pull = more (is_one (By ReclaimedByPull) l) n.reclaimed_by_pull;
  reclaimed_by_crawler = more (is_one (By ReclaimedByCrawler) l) n.reclaimed_by_crawler;
  reclaimed_by_hit = more (is_one (By ReclaimedByHit) l) n.reclaimed_by_hit;
  reclaimed_by_mover = more (is_one (By ReclaimedByMover) l) n.reclaimed_by_mover;
  deleted = more (is_one (By Deleted) l) n.deleted;
  dropped_by_failed_set = more (is_one (By DroppedByFailedSet) l) n.dropped_by_failed_set;
}

-- the same of all that is counted of a class that the key left
abbrev pub with_leaving : LeftCounts → Leaving → LeftCounts
with_leaving n l = record {
  misses = plus n.misses l.asks;
  left = with_cause n.left l;
  evicted = more (is_one AllEvicted l) n.evicted;
  unfetched = more (is_one Unfetched l) n.unfetched;
  asked = more (is_one Asked l) n.asked;
}

-- the figures are those of class c
pub record IsFigures (ss : List PathStep) (ls : List Leaving) (c : ℕ) (f : ClassFigures) : Type 0 where
  pub class : f.class ≡ c
  pub stores : f.stores ≡ count_steps (Some c) kind.Stored ss
  pub hits : f.hits ≡ count_steps (Some c) kind.Hit ss
  pub misses : f.misses ≡ count_misses c ls
  pub left : f.left ≡ cause_counts (Some c) ls
  pub evicted : f.evicted ≡ count_left (Some c) AllEvicted ls
  pub unfetched : f.unfetched ≡ count_left (Some c) Unfetched ls
  pub asked : f.asked ≡ count_left (Some c) Asked ls
  pub idle : IsMedian (waits (Some c) AllEvicted ls) f.idle
  pub asked_after : IsMedian (waits (Some c) Asked ls) f.asked_after

-- the figures are those of the classes from 1 on, in order
abbrev pub AreFigures : List PathStep → List Leaving → List ClassFigures → Type 0
AreFigures ss ls fs = (i : ℕ) (f : ClassFigures) → slice_get fs i ≡ Some f → IsFigures ss ls (i + 1) f
