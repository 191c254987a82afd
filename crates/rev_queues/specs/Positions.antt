-- Where the link and the standing of each place of a queue lie.
-- Rule of this project: the tables of the queues, place by place.
use Rattle.std.specs.Prelude.{◌≡◌, ◌≢◌, ℕ, Option, Some, None, List, length, map, slice_get, option_map}
use Rattle.rev_links.specs.declared.places.RingPlace.{RingPlace}
use Rattle.rev_links.specs.declared.places.RingPlace.TheVariants.{End, At}
use Rattle.rev_links.specs.declared.places.Link.{Link}
use Rattle.rev_links.specs.Rings.{Closed, Opened}
use Rattle.rev_links.specs.Grids.{cell_at}
use Rattle.rev_model.specs.declared.ChunkRef.{ChunkRef}
use Rattle.rev_queues.specs.declared.members.QueueId.{QueueId}
use Rattle.rev_queues.specs.declared.members.Member.{Member}
use Rattle.rev_queues.specs.declared.members.Member.TheVariants.{Chunk, Mark}
use Rattle.rev_queues.specs.declared.members.QueueSlot.{QueueSlot}
use Rattle.rev_queues.specs.declared.members.Standing.{Standing}

-- a place of a queue: a queue's end, or a member
abbrev pub Position : Type 0
Position = RingPlace QueueId Member

-- what stands behind and before a place
abbrev pub PositionLink : Type 0
PositionLink = Link QueueId Member

-- a chunk's slot, if it is there
abbrev pub slot_at : List (List QueueSlot) → ChunkRef → Option QueueSlot
slot_at slots x = cell_at slots x.page x.slot

-- the link of a place, if the place is there
abbrev pub link_at : List PositionLink → List PositionLink → List (List QueueSlot) → Position → Option PositionLink
link_at ends marks slots (End c) = slice_get ends c.number
link_at ends marks slots (At (Mark c)) = slice_get marks c.number
link_at ends marks slots (At (Chunk x)) = option_map (λ s. s.link) (slot_at slots x)

-- the place behind a place
abbrev pub next_in : List PositionLink → List PositionLink → List (List QueueSlot) → Position → Option Position
next_in ends marks slots p = option_map (λ l. l.next) (link_at ends marks slots p)

-- the place before a place
abbrev pub previous_in : List PositionLink → List PositionLink → List (List QueueSlot) → Position → Option Position
previous_in ends marks slots p = option_map (λ l. l.previous) (link_at ends marks slots p)

-- the standing of a chunk, if its slot is there
abbrev pub standing_at : List (List QueueSlot) → ChunkRef → Option Standing
standing_at slots x = option_map (λ s. s.standing) (slot_at slots x)

-- the bytes of a standing, 0 where a chunk stands nowhere
abbrev pub footprint_in : Option Standing → ℕ
footprint_in None = 0
footprint_in (Some s) = s.footprint

-- the bytes that a chunk counts
abbrev pub footprint_of : List (List QueueSlot) → ChunkRef → ℕ
footprint_of slots x = footprint_in (standing_at slots x)

-- the bytes that a member counts
abbrev pub told : List (List QueueSlot) → Member → ℕ
told slots (Chunk x) = footprint_of slots x
told slots (Mark q) = 0

-- the links before and after a step in which a member was taken out
pub record Closes (next previous next' previous' : Position → Option Position) (x : Member) : Type 0 where
  pub p : Position
  pub n : Position
  pub closed : Closed next previous next' previous' x p n

-- the same, in which it was put behind the place a
pub record Opens (next previous next' previous' : Position → Option Position) (x : Member) (a : Position) : Type 0 where
  pub n : Position
  pub opened : Opened next previous next' previous' x a n

-- how many ends and marks there are, and how many slots each page has
pub record SameShape (ends marks : List PositionLink) (slots : List (List QueueSlot)) (ends' marks' : List PositionLink) (slots' : List (List QueueSlot)) : Type 0 where
  pub same_ends : length ends' ≡ length ends
  pub same_marks : length marks' ≡ length marks
  pub same_sizes : map length slots' ≡ map length slots

-- every chunk's standing stays
abbrev pub SameStanding : List (List QueueSlot) → List (List QueueSlot) → Type 0
SameStanding slots slots' = (x : ChunkRef) → standing_at slots' x ≡ standing_at slots x

-- a chunk's standing was written, and no other
abbrev pub Tells : List (List QueueSlot) → List (List QueueSlot) → Member → Standing → Type 0
Tells slots slots' (Chunk x) s = (standing_at slots' x ≡ Some s) × ((y : ChunkRef) → y ≢ x → standing_at slots' y ≡ standing_at slots y)
Tells slots slots' (Mark q) s = SameStanding slots slots'
