-- The figures of a trace that is read in parts, one behind another.
-- Rule of this project: they are those of all rows so far, of any number; a count stops at the highest number of 64
-- bits. The rows of a part stand behind those of the parts before it. What is counted here goes by a row's kind, class,
-- cause and fetched bit alone, so it does not matter that a part counts its own steps from 1.
use Rattle.std.specs.Prelude.{ℕ, ◌^◌, ◌-◌, ◌≡◌, ◌<◌, cond, min, nat_eq, fold, List, Option, None, Some, length, get_or}
use Rattle.rev_figures.specs.Classes.{plus, more, with_cause, with_step}
use Rattle.rev_figures.specs.Tables.{is_one, count_left, count_steps, last_second}
use Rattle.rev_model.specs.declared.Cause.TheVariants.{Evicted, ReclaimedByPull, ReclaimedByCrawler, ReclaimedByHit, ReclaimedByMover, EvictedByMover, Deleted, DroppedByFailedSet}
use Rattle.rev_figures.specs.declared.path.Leaving.{Leaving}
use Rattle.rev_figures.specs.declared.path.PathStep.{PathStep}
use Rattle.rev_figures.specs.declared.path.StepKind.TheVariants as kind
use Rattle.rev_figures.specs.declared.tables.CauseCounts.{CauseCounts}
use Rattle.rev_figures.specs.declared.tables.Totals.{Totals}
use Rattle.rev_figures.specs.declared.tables.Which.TheVariants.{By, AllEvicted, Unfetched}
use Rattle.rev_figures.specs.declared.by_class.StepCounts.{StepCounts}
use Rattle.rev_figures.specs.declared.sums.LostCounts.{LostCounts}
use Rattle.rev_figures.specs.declared.classes.ClassFigures.{ClassFigures}

-- a number, or the highest of 64 bits
abbrev pub capped : ℕ → ℕ
capped n = min n (2 ^ 64 - 1)

-- how many keys left the class by each cause
abbrev pub capped_causes : Option ℕ → List Leaving → CauseCounts
capped_causes c ls = record {
  evicted = capped (count_left c (By Evicted) ls);
  evicted_by_mover = capped (count_left c (By EvictedByMover) ls);
  reclaimed_by_pull = capped (count_left c (By ReclaimedByPull) ls);
  reclaimed_by_crawler = capped (count_left c (By ReclaimedByCrawler) ls);
  reclaimed_by_hit = capped (count_left c (By ReclaimedByHit) ls);
  reclaimed_by_mover = capped (count_left c (By ReclaimedByMover) ls);
  deleted = capped (count_left c (By Deleted) ls);
  dropped_by_failed_set = capped (count_left c (By DroppedByFailedSet) ls);
}

-- the counts by cause of two lists of keys together
abbrev pub both_causes : CauseCounts → CauseCounts → CauseCounts
both_causes n m = record {
  evicted = plus n.evicted m.evicted;
  evicted_by_mover = plus n.evicted_by_mover m.evicted_by_mover;
  reclaimed_by_pull = plus n.reclaimed_by_pull m.reclaimed_by_pull;
  reclaimed_by_crawler = plus n.reclaimed_by_crawler m.reclaimed_by_crawler;
  reclaimed_by_hit = plus n.reclaimed_by_hit m.reclaimed_by_hit;
  reclaimed_by_mover = plus n.reclaimed_by_mover m.reclaimed_by_mover;
  deleted = plus n.deleted m.deleted;
  dropped_by_failed_set = plus n.dropped_by_failed_set m.dropped_by_failed_set;
}

-- two totals together, with the first second of the one and this last second
abbrev pub both_totals : Totals → Totals → ℕ → Totals
both_totals n m last = record {
  steps = plus n.steps m.steps;
  hits = plus n.hits m.hits;
  misses = plus n.misses m.misses;
  stores = plus n.stores m.stores;
  left = both_causes n.left m.left;
  first_second = n.first_second;
  last_second = last;
}

-- the totals of these rows, where the clock began at second t
abbrev pub totals_of : ℕ → List PathStep → List Leaving → Totals
totals_of t ss ls = record {
  steps = capped (length ss);
  hits = capped (count_steps None kind.Hit ss);
  misses = capped (count_steps None kind.Miss ss);
  stores = capped (count_steps None kind.Stored ss);
  left = capped_causes None ls;
  first_second = t;
  last_second = last_second t ss;
}

-- what is counted of the steps of class c
abbrev pub capped_steps : ℕ → List PathStep → StepCounts
capped_steps c ss = record { stores = capped (count_steps (Some c) kind.Stored ss); hits = capped (count_steps (Some c) kind.Hit ss) }

-- what is counted of the keys that left class c
abbrev pub capped_lost : ℕ → List Leaving → LostCounts
capped_lost c ls = record {
  left = capped_causes (Some c) ls;
  evicted = capped (count_left (Some c) AllEvicted ls);
  unfetched = capped (count_left (Some c) Unfetched ls);
}

-- the same with a key more that left the class
abbrev pub with_lost : LostCounts → Leaving → LostCounts
with_lost n l = record {
  left = with_cause n.left l;
  evicted = more (is_one AllEvicted l) n.evicted;
  unfetched = more (is_one Unfetched l) n.unfetched;
}

-- the counts of class c with a row more, which may be one of another class
abbrev pub step_at : ℕ → StepCounts → PathStep → StepCounts
step_at c n s = cond (nat_eq c s.class) (with_step n s) n

abbrev pub lost_at : ℕ → LostCounts → Leaving → LostCounts
lost_at c n l = cond (nat_eq c l.class) (with_lost n l) n

-- the counts by class are those of these rows
pub record AreCounts (ss : List PathStep) (ls : List Leaving) (by_step : List StepCounts) (by_leaving : List LostCounts) : Type 0 where
  pub steps_wide : length by_step ≡ 256
  pub lost_wide : length by_leaving ≡ 256
  pub steps : (c : ℕ) (d : StepCounts) → c < 256 → get_or by_step c d ≡ capped_steps c ss
  pub lost : (c : ℕ) (d : LostCounts) → c < 256 → get_or by_leaving c d ≡ capped_lost c ls

-- what is told of class c beside its waits and the look-ups that missed its keys
pub record IsCounted (ss : List PathStep) (ls : List Leaving) (c : ℕ) (f : ClassFigures) : Type 0 where
  pub class : f.class ≡ c
  pub stores : f.stores ≡ capped (count_steps (Some c) kind.Stored ss)
  pub hits : f.hits ≡ capped (count_steps (Some c) kind.Hit ss)
  pub left : f.left ≡ capped_causes (Some c) ls
  pub evicted : f.evicted ≡ capped (count_left (Some c) AllEvicted ls)
  pub unfetched : f.unfetched ≡ capped (count_left (Some c) Unfetched ls)
