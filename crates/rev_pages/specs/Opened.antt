-- Ends of empty lists.
-- Rule of this project: how the free lists of a new store lie in their table.
use Rattle.std.specs.Prelude.{◌≡◌, ℕ, ◌<◌, Some, List, length, slice_get}
use Rattle.rev_links.specs.declared.places.RingPlace.TheVariants.{End}
use Rattle.rev_pages.specs.Tables.{FreeLink}

-- each end stands before and behind itself
abbrev pub AreEmpty : List FreeLink → Type 0
AreEmpty ends = (c : ℕ) → c < length ends → slice_get ends c ≡ Some (record { previous = End (record { class = c }); next = End (record { class = c }) })
