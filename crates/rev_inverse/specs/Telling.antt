-- What a record tells of the keys that left the index.
-- Rule of this project: a note beside each move, by which each removal has its cause.
use Rattle.std.specs.Prelude.{◌≡◌, List, ◌++◌, length}
use Rattle.rev_model.specs.State.{State}
use Rattle.rev_model.specs.Track.{Removal, removals}
use Rattle.rev_inverse.specs.Record.{PlainRecord}

-- a record with a note beside each move still has one, and tells these removals more
pub record Tells (r : PlainRecord) (s : State) (t : PlainRecord) (u : State) (rs : List Removal) : Type 0 where
  pub beside : length r.notes ≡ length r.moves → length t.notes ≡ length t.moves
  pub told : length r.notes ≡ length r.moves → removals t.moves t.notes u ≡ removals r.moves r.notes s ++ rs

-- a whole record: a note beside each move, and these removals
pub record TellsAll (t : PlainRecord) (u : State) (rs : List Removal) : Type 0 where
  pub beside : length t.notes ≡ length t.moves
  pub told : removals t.moves t.notes u ≡ rs
