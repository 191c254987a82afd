use Rattle.std.proofs.Common.{◌≡◌, ◌<◌, ℕ, fold, length, take, get_or}
use Rattle.rev_figures.specs.Sums.{lost_at}
use Rattle.rev_figures.specs.declared.sums.LostCounts.{LostCounts}
use Rattle.rev_figures.proofs.sums.count_leavings.Given as goal

-- the keys up to the next one are counted
abbrev pub invariant-loop-leaving : goal.invariant-loop-leaving
invariant-loop-leaving g l = record {
  wide : length l.counts.items ≡ length l.fn.counts.items;
  told : (c : ℕ) (d : LostCounts) → c < length l.fn.counts.items → get_or l.counts.items c d ≡ fold (lost_at c) (get_or l.fn.counts.items c d) (take l.leaving-index l.leavings);
}
