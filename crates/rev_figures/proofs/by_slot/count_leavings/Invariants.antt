use Rattle.std.proofs.Common.{◌≡◌, ◌<◌, ℕ, length, take, get_or}
use Rattle.rev_figures.specs.Slots.{slot_counts}
use Rattle.rev_figures.specs.declared.tables.CauseCounts.{CauseCounts}
use Rattle.rev_figures.proofs.by_slot.count_leavings.Given as goal

-- the rows up to the next one are counted
abbrev pub invariant-loop-leaving : goal.invariant-loop-leaving
invariant-loop-leaving g l = record {
  wide : length l.counts.items ≡ l.slots;
  told : (k : ℕ) (d : CauseCounts) → k < l.slots → get_or l.counts.items k d ≡ slot_counts l.slot_length k (take l.leaving-index l.leavings);
}
