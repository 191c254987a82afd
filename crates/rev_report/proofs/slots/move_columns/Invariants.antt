use Rattle.std.proofs.Common.{◌≡◌, ◌∷◌, [], ℕ, Some, length, slice_get}
use Rattle.rev_figures.specs.Slots.{slot_moves}
use Rattle.rev_report.specs.declared.plot.Column.{Column}
use Rattle.rev_report.proofs.slots.move_columns.Given as goal

-- the slots up to the next one are told
abbrev pub invariant-loop-place : goal.invariant-loop-place
invariant-loop-place l = record {
  count : length l.columns.items ≡ l.place;
  told : (i : ℕ) (c : Column) → slice_get l.columns.items i ≡ Some c → c.values ≡ slot_moves l.path.slot_length i l.path.moves.items ∷ 0 ∷ 0 ∷ 0 ∷ 0 ∷ 0 ∷ 0 ∷ 0 ∷ [];
}
