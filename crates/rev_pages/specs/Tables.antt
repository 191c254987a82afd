-- Where the link of each place lies.
-- Rule of this project: the tables of the free lists, place by place.
use Rattle.std.specs.Prelude.{◌≡◌, Option, List, [], length, map, slice_get, slice_index_or, option_map}
use Rattle.rev_links.specs.Rings.{Closed, Opened}
use Rattle.rev_links.specs.declared.places.RingPlace.{RingPlace}
use Rattle.rev_links.specs.declared.places.RingPlace.TheVariants.{End, At}
use Rattle.rev_links.specs.declared.places.Link.{Link}
use Rattle.rev_pages.specs.declared.places.FreeList.{FreeList}
use Rattle.rev_model.specs.declared.ChunkRef.{ChunkRef}

-- a place of a free list: a class's end, or a chunk
abbrev pub FreePlace : Type 0
FreePlace = RingPlace FreeList ChunkRef

-- what stands behind and before a place
abbrev pub FreeLink : Type 0
FreeLink = Link FreeList ChunkRef

-- the link of a place, if the place is there
abbrev pub link_at : List FreeLink → List (List FreeLink) → FreePlace → Option FreeLink
link_at ends links (End c) = slice_get ends c.class
link_at ends links (At x) = slice_get (slice_index_or links x.page []) x.slot

-- the place behind a place
abbrev pub next_in : List FreeLink → List (List FreeLink) → FreePlace → Option FreePlace
next_in ends links p = option_map (λ l. l.next) (link_at ends links p)

-- the place before a place
abbrev pub previous_in : List FreeLink → List (List FreeLink) → FreePlace → Option FreePlace
previous_in ends links p = option_map (λ l. l.previous) (link_at ends links p)

-- how many ends there are, and how many links each page has
pub record SameShape (ends : List FreeLink) (links : List (List FreeLink)) (ends' : List FreeLink) (links' : List (List FreeLink)) : Type 0 where
  pub same_ends : length ends' ≡ length ends
  pub same_sizes : map length links' ≡ map length links

-- a table's links before and after a step in which x was taken out
pub record Closes (ends : List FreeLink) (links : List (List FreeLink)) (ends' : List FreeLink) (links' : List (List FreeLink)) (x : ChunkRef) : Type 0 where
  pub p : FreePlace
  pub n : FreePlace
  pub closed : Closed (next_in ends links) (previous_in ends links) (next_in ends' links') (previous_in ends' links') x p n

-- the same, in which x was put behind the place a
pub record Opens (ends : List FreeLink) (links : List (List FreeLink)) (ends' : List FreeLink) (links' : List (List FreeLink)) (x : ChunkRef) (a : FreePlace) : Type 0 where
  pub n : FreePlace
  pub opened : Opened (next_in ends links) (previous_in ends links) (next_in ends' links') (previous_in ends' links') x a n
