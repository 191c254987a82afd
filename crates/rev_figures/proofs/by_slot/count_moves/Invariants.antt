use Rattle.std.proofs.Common.{◌≡◌, ◌<◌, ℕ, length, take, get_or}
use Rattle.rev_figures.specs.Slots.{slot_moves}
use Rattle.rev_figures.proofs.by_slot.count_moves.Given as goal

-- the rows up to the next one are counted
abbrev pub invariant-loop-moved : goal.invariant-loop-moved
invariant-loop-moved g l = record {
  wide : length l.counts.items ≡ l.slots;
  told : (k : ℕ) (d : ℕ) → k < l.slots → get_or l.counts.items k d ≡ slot_moves l.slot_length k (take l.moved-index l.moves);
}
