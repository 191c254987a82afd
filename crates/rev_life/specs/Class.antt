-- From which slab class a key left.
-- Rule of this project: a step's record undoes it, so it puts the key's item back into the class that it left.
use Rattle.std.specs.Prelude.{ℕ, ◌≡◌, cond, List, [], ◌∷◌, Option, Some, None}
use Rattle.rev_items.specs.Plain.{PlainItem}
use Rattle.rev_model.specs.Track.{same_key}
use Rattle.rev_model.specs.Move.{Move, Puts, Binds, Fills}
use Rattle.rev_model.specs.declared.Placed.TheVariants.{ToQueue}
use Rattle.rev_model.specs.declared.Cause.{Cause}
use Rattle.rev_inverse.specs.Record.{PlainChange, PlainRecord}
use Rattle.rev_tree.specs.Steps.{Step, Outcome}
use Rattle.rev_tree.specs.Positions.{SessionState}
use Rattle.rev_tree.specs.Trails.{Trailed}

-- the class, where the item is the key's and a cause is noted
abbrev pub class_if : PlainItem → ℕ → Option Cause → List ℕ → Option ℕ
class_if i c None k = None
class_if i c (Some n) k = cond (same_key i.key k) (Some c) None

-- of a change that puts an item into a queue of a class, under its key, where a cause is noted beside the latter
abbrev pub class_of : List Move → List (Option Cause) → List ℕ → Option ℕ
class_of (Puts (ToQueue c q y a) ∷ Binds x ∷ Fills z (Some i) ∷ ms) (n ∷ m ∷ ns) k = class_if i c m k
class_of ms ns k = None

abbrev pub class_in : PlainChange → List ℕ → Option ℕ
class_in p k = class_of p.moves p.notes k

-- this, or else that
abbrev pub or_else : Option ℕ → Option ℕ → Option ℕ
or_else None o = o
or_else (Some c) o = Some c

-- of the first of these changes that does so
abbrev pub class_by : List PlainChange → List ℕ → Option ℕ
class_by [] k = None
class_by (p ∷ ps) k = or_else (class_in p k) (class_by ps k)

-- the record of node n, which stands as deep as its number, puts the key back into this class
pub record IsLeft (s : SessionState) (n : ℕ) (k : List ℕ) (c : ℕ) : Type 0 where
  pub played : Step
  pub answered : Outcome
  pub trace : PlainRecord
  pub trailed : Trailed s n n played answered trace
  pub back : class_by trace.changes k ≡ Some c
