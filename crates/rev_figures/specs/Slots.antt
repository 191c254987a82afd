-- What happened in each slot of a path.
-- Rule of this project: what a report counts of the parts of a trace, one behind another.
use Rattle.std.specs.Prelude.{ℕ, ◌-◌, ◌/◌, Bool, ◌&&◌, nat_eq, max, List}
use Rattle.std.specs.List.{count_by}
use Rattle.rev_model.specs.declared.Cause.TheVariants.{Evicted, ReclaimedByPull, ReclaimedByCrawler, ReclaimedByHit, ReclaimedByMover, EvictedByMover, Deleted, DroppedByFailedSet}
use Rattle.rev_figures.specs.Tables.{is_one}
use Rattle.rev_figures.specs.declared.path.Leaving.{Leaving}
use Rattle.rev_figures.specs.declared.path.PageMove.{PageMove}
use Rattle.rev_figures.specs.declared.tables.CauseCounts.{CauseCounts}
use Rattle.rev_figures.specs.declared.tables.Which.{Which}
use Rattle.rev_figures.specs.declared.tables.Which.TheVariants.{By}

-- the slot of the i-th step, where a slot has w steps
abbrev pub slot_of : ℕ → ℕ → ℕ
slot_of w i = (i - 1) / max w 1

-- a key that left in slot k, and is one of these
abbrev pub has_left : ℕ → ℕ → Which → Leaving → Bool
has_left w k by l = nat_eq k (slot_of w l.step) && is_one by l

-- how many of these left in slot k
abbrev pub count_in : ℕ → ℕ → Which → List Leaving → ℕ
count_in w k by ls = count_by (has_left w k by) ls

-- how many keys left in slot k by each cause
abbrev pub slot_counts : ℕ → ℕ → List Leaving → CauseCounts
slot_counts w k ls = record {
  evicted = count_in w k (By Evicted) ls;
  evicted_by_mover = count_in w k (By EvictedByMover) ls;
  reclaimed_by_pull = count_in w k (By ReclaimedByPull) ls;
  reclaimed_by_crawler = count_in w k (By ReclaimedByCrawler) ls;
  reclaimed_by_hit = count_in w k (By ReclaimedByHit) ls;
  reclaimed_by_mover = count_in w k (By ReclaimedByMover) ls;
  deleted = count_in w k (By Deleted) ls;
  dropped_by_failed_set = count_in w k (By DroppedByFailedSet) ls;
}

-- a page that moved in slot k
abbrev pub has_moved : ℕ → ℕ → PageMove → Bool
has_moved w k m = nat_eq k (slot_of w m.step)

-- how many pages moved in slot k
abbrev pub slot_moves : ℕ → ℕ → List PageMove → ℕ
slot_moves w k ms = count_by (has_moved w k) ms
