-- A record without its allocator.
-- Rule of this project: a record is its moves, the note beside each, and how they are grouped.
use Rattle.std.specs.Prelude.{ℕ, ◌≡◌, ◌-◌, ◌++◌, Bool, true, false, List, [], ◌∷◌, Option, length, reverse}
use Rattle.rev_model.specs.Move.{Move}
use Rattle.rev_model.specs.declared.Cause.{Cause}
use Rattle.rev_inverse.specs.declared.changes.Change as stored
use Rattle.rev_inverse.specs.Seen.{plain_moves, plain_notes}

-- moves that are kept as one, and the note beside each
pub record PlainChange : Type 0 where
  pub moves : List Move
  pub notes : List (Option Cause)

-- the change of a change
abbrev pub plain_change : {A : Type 0} → stored.Change A → PlainChange
plain_change m = record { moves = plain_moves m; notes = plain_notes m }

-- the moves of changes, in a row
abbrev pub moves_in : List PlainChange → List Move
moves_in [] = []
moves_in (p ∷ ps) = p.moves ++ moves_in ps

-- their notes
abbrev pub notes_in : List PlainChange → List (Option Cause)
notes_in [] = []
notes_in (p ∷ ps) = p.notes ++ notes_in ps

-- the changes that are kept so, or the other way round
abbrev pub in_order : Bool → List PlainChange → List PlainChange
in_order false gs = gs
in_order true gs = reverse gs

-- where the i-th of n changes stands
abbrev pub place_in : Bool → ℕ → ℕ → ℕ
place_in false i n = i
place_in true i n = n - 1 - i

-- the moves in the order made, the note beside each, how many moves there is room for, and in which changes they are
-- kept
pub record PlainRecord : Type 0 where
  pub moves : List Move
  pub notes : List (Option Cause)
  pub room : ℕ
  pub changes : List PlainChange

-- the moves and notes are those of the changes
pub record IsWhole (r : PlainRecord) : Type 0 where
  pub moves : r.moves ≡ moves_in r.changes
  pub notes : r.notes ≡ notes_in r.changes

-- the record of these changes, with no room for more
abbrev pub whole : List PlainChange → PlainRecord
whole gs = record { moves = moves_in gs; notes = notes_in gs; room = length (moves_in gs); changes = gs }

-- the same record, with no room for more
abbrev pub fitted : PlainRecord → PlainRecord
fitted r = record r { room = length r.moves }

-- what is read where there is no record
abbrev pub no_record : PlainRecord
no_record = whole []

-- the same, without a word on the changes and on room
abbrev pub flat : PlainRecord → PlainRecord
flat r = record r { room = length r.moves; changes = [] }
