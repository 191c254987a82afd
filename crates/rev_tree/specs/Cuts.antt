-- Records whose changes stand one behind another in a list.
-- Rule of this project: the records of a run lie in one list, each cut off by its extent.
use Rattle.std.specs.Prelude.{ℕ, ◌≡◌, ◌+◌, List, [], ◌∷◌, take, drop}
use Rattle.rev_inverse.specs.Record.{PlainRecord, PlainChange, in_order, whole}
use Rattle.rev_tree.specs.declared.records.Extent.{Extent}

-- the record of the first changes of a list, as many as the extent counts
abbrev pub first_of : Extent → List PlainChange → PlainRecord
first_of e gs = whole (in_order e.is_turned (take e.count gs))

-- a record for each extent, each of the changes behind those of the one before it
abbrev pub cut_by : List Extent → List PlainChange → List PlainRecord
cut_by [] gs = []
cut_by (e ∷ es) gs = first_of e gs ∷ cut_by es (drop e.count gs)

-- each extent begins where the one before it ends, the first at `start`, and the last ends at `end`
abbrev pub Tiles : ℕ → List Extent → ℕ → Type 0
Tiles start [] end = start ≡ end
Tiles start (e ∷ es) end = (e.start ≡ start) × Tiles (start + e.count) es end
