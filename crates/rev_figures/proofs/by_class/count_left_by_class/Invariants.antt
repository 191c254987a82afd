use Rattle.std.proofs.Common.{◌≡◌, ◌<◌, ℕ, length, take, get_or}
use Rattle.rev_figures.specs.Classes.{left_counts}
use Rattle.rev_figures.specs.declared.by_class.LeftCounts.{LeftCounts}
use Rattle.rev_figures.proofs.by_class.count_left_by_class.Given as goal

-- the keys up to the next one are counted
abbrev pub invariant-loop-leaving : goal.invariant-loop-leaving
invariant-loop-leaving g l = record {
  wide : length l.counts.items ≡ 256;
  told : (c : ℕ) (d : LeftCounts) → c < 256 → get_or l.counts.items c d ≡ left_counts c (take l.leaving-index l.leavings);
}
