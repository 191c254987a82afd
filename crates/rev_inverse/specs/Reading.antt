-- What is read of a list one entry after another.
-- Rule of this project: lists are read from one entry to the one behind it.
use Rattle.std.specs.Prelude.{Bool, List, Option, None, Some, slice_get}
use Rattle.rev_links.specs.Neighbours.{behind_of}

-- the first entry, or the one that stands behind another
abbrev pub next_after : {X : Type 0} → (X → X → Bool) → Option X → List X → Option X
next_after same None l = slice_get l 0
next_after same (Some x) l = behind_of same x l
