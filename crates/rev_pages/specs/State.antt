-- The pages as plain lists, and when links stand for them.
-- Rule of memcached: each page is a class's or the pool's, and each class has a free list.
-- Rule of this project: how these lie in the tables of the page table.
use Rattle.std.specs.Prelude.{◌≡◌, ℕ, ◌∷◌, ◌++◌, ◌<◌, ◌≤◌, List, [], length, map, nat_eq, take, replicate, slice_index, slice_index_or, slice_set}
use Rattle.std.specs.List.{count_by, range_with_len}
use Rattle.rev_links.specs.declared.places.RingPlace.TheVariants.{End}
use Rattle.rev_links.specs.Rings.{walk, Path, In}
use Rattle.rev_model.specs.declared.ChunkRef.{ChunkRef}
use Rattle.rev_model.specs.Move.{falling}
use Rattle.rev_pages.specs.declared.places.FreeList.{FreeList}
use Rattle.rev_pages.specs.Tables.{FreeLink, next_in, previous_in}

-- what callers see
pub record PagesState : Type 0 where
  -- page to class, 0 for the pool
  pub owner : List ℕ
  -- class to free chunks, front first
  pub free : List (List ChunkRef)
  -- place of the page table to the number of its slots, 0 where no page is
  pub slots : List ℕ

-- no page made, so many empty free lists, room for so many pages
abbrev pub no_pages : ℕ → ℕ → PagesState
no_pages lists places = record { owner = []; free = replicate lists []; slots = replicate places 0 }

-- the free list of class c
abbrev pub free_of : PagesState → ℕ → List ChunkRef
free_of s c = slice_index_or s.free c []

-- with this free list of class c
abbrev pub with_free : PagesState → ℕ → List ChunkRef → PagesState
with_free s c xs = record s { free = slice_set s.free c xs }

-- x stands in no free list
abbrev pub IsNowhere : PagesState → ChunkRef → Type 0
IsNowhere s x = (c : ℕ) → In x (free_of s c) → ⊥

-- more than all chunks that two 16-bit numbers can name
unfoldable pub all_chunks : ℕ
all_chunks = 4294967296

-- the members that are met from the end of a class's list on
unfoldable pub chain : List FreeLink → List (List FreeLink) → FreeList → List ChunkRef
chain ends links c = walk (next_in ends links) all_chunks (End c)

-- the free lists of all classes
abbrev pub chains : List FreeLink → List (List FreeLink) → List (List ChunkRef)
chains ends links = map (λ n. chain ends links (record { class = n })) (range_with_len 0 (length ends))

-- of the owners the first `made` count
abbrev pub state_of : List ℕ → ℕ → List FreeLink → List (List FreeLink) → PagesState
state_of owners made ends links = record { owner = take made owners; free = chains ends links; slots = map length links }

-- every free list runs through the links in both directions
pub record IsLinked (owners : List ℕ) (made : ℕ) (ends : List FreeLink) (links : List (List FreeLink)) : Type 0 where
  pub ring : (c : FreeList) → c.class < length ends → Path (next_in ends links) (previous_in ends links) (End c) (chain ends links c) (End c)
  pub owned : length owners ≡ length links
  pub made_within : made ≤ length owners
  pub classes : length ends ≤ 65536
  pub pages : length links < 65536
  pub slots_below : (p : ℕ) → slice_index (map length links) p ≤ 65535

-- there is a cell for each class, in which stands how many pages it owns
pub record AreCounted (owned : List ℕ) (classes : ℕ) (owner : List ℕ) : Type 0 where
  pub cells : length owned ≡ classes
  pub each : (c : ℕ) → slice_index owned c ≡ count_by (λ d. nat_eq d c) owner

-- the lists are linked, and the pages of each class counted
pub record IsKept (owners : List ℕ) (made : ℕ) (owned : List ℕ) (ends : List FreeLink) (links : List (List FreeLink)) : Type 0 where
  pub linked : IsLinked owners made ends links
  pub counted : AreCounted owned (length ends) (take made owners)

-- the chunks of a page in front of a list, the highest slot first
abbrev pub carved : ℕ → ℕ → List ChunkRef → List ChunkRef
carved page n xs = falling page n ++ xs

-- the pages belong to these
abbrev pub with_owner : PagesState → List ℕ → PagesState
with_owner s owner = record s { owner = owner }

-- a page has n slots
abbrev pub with_slots : PagesState → ℕ → ℕ → PagesState
with_slots s page n = record s { slots = slice_set s.slots page n }

-- a page gets n slots and an owner: the page is the next number, or it was there
abbrev pub with_new_page : PagesState → ℕ → ℕ → ℕ → PagesState
with_new_page s page c n = with_slots (with_owner s (s.owner ++ c ∷ [])) page n

-- page `page` of class c with n slots
abbrev pub with_page : PagesState → ℕ → ℕ → ℕ → PagesState
with_page s page c n = with_slots (with_owner s (slice_set s.owner page c)) page n

-- the last page goes
abbrev pub without_last_page : PagesState → ℕ → PagesState
without_last_page s page = with_slots (with_owner s (take page s.owner)) page 0

-- no chunk of the page stands in a free list
abbrev pub IsClear : PagesState → ℕ → Type 0
IsClear s page = (x : ChunkRef) → x.page ≡ page → IsNowhere s x
