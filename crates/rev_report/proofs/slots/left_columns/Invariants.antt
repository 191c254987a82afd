use Rattle.std.proofs.Common.{◌≡◌, ℕ, Some, length, slice_get}
use Rattle.rev_figures.specs.Slots.{slot_counts}
use Rattle.rev_report.specs.Cells.{causes_of}
use Rattle.rev_report.specs.declared.plot.Column.{Column}
use Rattle.rev_report.proofs.slots.left_columns.Given as goal

-- the slots up to the next one are told
abbrev pub invariant-loop-place : goal.invariant-loop-place
invariant-loop-place l = record {
  count : length l.columns.items ≡ l.place;
  told : (i : ℕ) (c : Column) → slice_get l.columns.items i ≡ Some c → c.values ≡ causes_of (slot_counts l.path.slot_length i l.path.leavings.items);
}
