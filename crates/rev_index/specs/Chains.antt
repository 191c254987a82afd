-- Hash chains: the chunks of a bucket, each linked with the one before it and the one behind it.
-- Rule of this project: when links stand for the chains, and what a step of links leaves.
use Rattle.std.specs.Prelude.{◌≡◌, ℕ, ◌%◌, Option, List, length, map, slice_get, option_map}
use Rattle.rev_links.specs.Rings.{walk, Closed, Opened}
use Rattle.rev_links.specs.declared.places.RingPlace.{RingPlace}
use Rattle.rev_links.specs.declared.places.RingPlace.TheVariants.{End, At}
use Rattle.rev_links.specs.declared.places.Link.{Link}
use Rattle.rev_model.specs.declared.ChunkRef.{ChunkRef}
use Rattle.rev_index.specs.declared.chains.Bucket.{Bucket}
use Rattle.rev_links.specs.Grids.{cell_at}
use Rattle.rev_items.specs.Hash.{hash_of}

-- a bucket's end, or a chunk
abbrev pub ChainPlace : Type 0
ChainPlace = RingPlace Bucket ChunkRef

-- what stands behind and before a place
abbrev pub ChainLink : Type 0
ChainLink = Link Bucket ChunkRef

-- the bucket of a key, where there are n of them
abbrev pub bucket_of : ℕ → List ℕ → ℕ
bucket_of n key = hash_of key % n

-- the link of a place, if the place is there
abbrev pub link_at : List ChainLink → List (List ChainLink) → ChainPlace → Option ChainLink
link_at ends links (End b) = slice_get ends b.number
link_at ends links (At x) = cell_at links x.page x.slot

-- the places behind and before a place
abbrev pub next_in : List ChainLink → List (List ChainLink) → ChainPlace → Option ChainPlace
next_in ends links p = option_map (λ l. l.next) (link_at ends links p)

-- the place before a place
abbrev pub previous_in : List ChainLink → List (List ChainLink) → ChainPlace → Option ChainPlace
previous_in ends links p = option_map (λ l. l.previous) (link_at ends links p)

-- how many ends there are, and how many slots each page has
pub record SameShape (ends : List ChainLink) (links : List (List ChainLink)) (ends' : List ChainLink) (links' : List (List ChainLink)) : Type 0 where
  pub same_ends : length ends' ≡ length ends
  pub same_sizes : map length links' ≡ map length links

-- the links before and after a step in which x was taken out
pub record Closes (ends : List ChainLink) (links : List (List ChainLink)) (ends' : List ChainLink) (links' : List (List ChainLink)) (x : ChunkRef) : Type 0 where
  pub p : ChainPlace
  pub n : ChainPlace
  pub closed : Closed (next_in ends links) (previous_in ends links) (next_in ends' links') (previous_in ends' links') x p n

-- the same, in which x was put behind the place a
pub record Opens (ends : List ChainLink) (links : List (List ChainLink)) (ends' : List ChainLink) (links' : List (List ChainLink)) (x : ChunkRef) (a : ChainPlace) : Type 0 where
  pub n : ChainPlace
  pub opened : Opened (next_in ends links) (previous_in ends links) (next_in ends' links') (previous_in ends' links') x a n

-- the chunks of 65536 pages of 65536 slots, as many as there can be
unfoldable pub all_chunks : ℕ
all_chunks = 4294967296

-- the members that are met from a place on
unfoldable pub trail : List ChainLink → List (List ChainLink) → ChainPlace → List ChunkRef
trail ends links p = walk (next_in ends links) all_chunks p

-- the members of a bucket
abbrev pub chain : List ChainLink → List (List ChainLink) → ℕ → List ChunkRef
chain ends links n = trail ends links (End (record { number = n }))
