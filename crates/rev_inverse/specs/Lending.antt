-- What becomes of a record of which a change is lent.
-- Rule of this project: a change of a record is turned in its place.
use Rattle.std.specs.Prelude.{ℕ, ◌+◌, ◌-◌, length, slice_set}
use Rattle.std.specs.Borrow.{Lends, MutBor, Fml, RattleType}
use Rattle.std.specs.declared.alloc.Allocator.{Ghosts}
use Rattle.rev_inverse.specs.declared.changes.Change.{Change}
use Rattle.rev_inverse.specs.Record.{PlainRecord, PlainChange, plain_change, moves_in, notes_in}
use Rattle.rev_inverse.specs.contracts.record.Record.{the_row}
use Rattle.rev_inverse.specs.contracts.changes.Change.{the_row as move_row}

-- the record with this change at the place
abbrev pub with_change : PlainRecord → ℕ → PlainChange → PlainRecord
with_change r place g = record {
  moves = moves_in (slice_set r.changes place g);
  notes = notes_in (slice_set r.changes place g);
  room = length (moves_in (slice_set r.changes place g)) + (r.room - length r.moves);
  changes = slice_set r.changes place g;
}

-- once the borrow ends, the last value behind it is the change at the place
abbrev pub LendsChange : (A : RattleType) → Ghosts A.Denot → MutBor PlainRecord → ℕ → MutBor (Change A.Denot) → Fml
LendsChange A alloc s place r = Lends (the_row A alloc) (move_row A alloc) s r (λ m. with_change s.now place (plain_change m))
