-- The plain state of a store, and when it is well formed.
-- Rule of memcached: what there is: classes, pages, chunks, free lists, four queues a class, an index and counters.
-- Rule of this project: all of it as lists, maps and numbers.
use Rattle.std.specs.Prelude.{ℕ, ◌≡◌, ◌+◌, ◌*◌, ◌<◌, ◌≤◌, ◌/◌, true, false, cond, List, [], Option, Some, is_some, length, slice_index, slice_index_or, nat_eq, ◌-◌}
use Rattle.std.specs.List.{sum_by}
use Rattle.std.specs.Ordering.{nat_cmp}
use Rattle.std.specs.Cmp.Lexicographic.{slice_cmp}
use Rattle.std.specs.FinMap as map
use Rattle.rev_items.specs.Plain.{PlainItem}
use Rattle.rev_model.specs.Chunk.{same_chunk, same_entry, chunk_cmp}
use Rattle.rev_model.specs.Lists.{has, count}
use Rattle.rev_model.specs.declared.ChunkRef.{ChunkRef}
use Rattle.rev_model.specs.declared.Entry.{Entry}
use Rattle.rev_model.specs.declared.Entry.TheVariants.{Chunk, Mark}
use Rattle.rev_model.specs.declared.Queue.{Queue}
use Rattle.rev_model.specs.declared.Queue.TheVariants.{Hot, Warm, Cold, Temp}
use Rattle.rev_model.specs.declared.Counter.{Counter}
use Rattle.rev_model.specs.declared.Counter.TheVariants.{Evicted, Reclaimed, CrawlerReclaimed, OutOfMemory, MovesToCold, MovesToWarm, MovesWithinLru}
use Rattle.rev_model.specs.declared.BumpEntry.{BumpEntry}
use Rattle.rev_model.specs.declared.Globals.{Globals}

-- chunk to item
abbrev pub Contents : Type 0
Contents = map.FinMap chunk_cmp PlainItem

-- key to chunk
abbrev pub Keys : Type 0
Keys = map.FinMap (slice_cmp nat_cmp) ChunkRef

-- what no move changes
pub record Fixed : Type 0 where
  pub page_size : ℕ
  -- chunk sizes of the classes from 1 on
  pub sizes : List ℕ
  pub limit : ℕ
  pub bump_room : ℕ

-- a store
pub record State : Type 0 where
  -- page to class, 0 for the pool
  pub owner : List ℕ
  -- class to chunks, front first
  pub free : List (List ChunkRef)
  -- class and queue to entries, head first: four places a class
  pub queues : List (List Entry)
  pub content : Contents
  pub index : Keys
  pub bump : List BumpEntry
  -- class and counter to value: seven places a class
  pub counters : List ℕ
  pub globals : Globals
  pub fixed : Fixed

-- the number of a queue among its class's four
abbrev pub queue_number : Queue → ℕ
queue_number Hot = 0
queue_number Warm = 1
queue_number Cold = 2
queue_number Temp = 3

-- the place of a queue of class c among all
abbrev pub queue_place : ℕ → Queue → ℕ
queue_place c q = 4 * c + queue_number q

-- the number of a counter among its class's seven
abbrev pub counter_number : Counter → ℕ
counter_number Evicted = 0
counter_number Reclaimed = 1
counter_number CrawlerReclaimed = 2
counter_number OutOfMemory = 3
counter_number MovesToCold = 4
counter_number MovesToWarm = 5
counter_number MovesWithinLru = 6

-- the place of a counter of class c among all
abbrev pub counter_place : ℕ → Counter → ℕ
counter_place c k = 7 * c + counter_number k

-- the free list of class c
abbrev pub free_of : State → ℕ → List ChunkRef
free_of s c = slice_index_or s.free c []

-- a queue of class c
abbrev pub queue_of : State → ℕ → Queue → List Entry
queue_of s c q = slice_index_or s.queues (queue_place c q) []

-- a counter of class c
abbrev pub counter_of : State → ℕ → Counter → ℕ
counter_of s c k = slice_index s.counters (counter_place c k)

-- the class of page p
abbrev pub owner_of : State → ℕ → ℕ
owner_of s p = slice_index s.owner p

-- the item in a chunk
abbrev pub item_at : State → ChunkRef → Option PlainItem
item_at s x = map.get s.content x

-- the chunk of a key
abbrev pub find : State → List ℕ → Option ChunkRef
find s k = map.get s.index k

-- the classes are numbered from 1 to this
abbrev pub last_class : State → ℕ
last_class s = length s.fixed.sizes

-- the chunks of a page of class c
abbrev pub per_page : Fixed → ℕ → ℕ
per_page f c = cond (nat_eq c 0) 0 (f.page_size / slice_index f.sizes (c - 1))

-- in how many places of lists a chunk stands
abbrev pub stands_in : List (List ChunkRef) → List (List Entry) → ChunkRef → ℕ
stands_in free queues x = sum_by (count same_chunk x) free + sum_by (count same_entry (Chunk x)) queues

-- the same in a state
abbrev pub stands : State → ChunkRef → ℕ
stands s x = stands_in s.free s.queues x

-- a slot of a page that the class owns
pub record IsChunkOf (f : Fixed) (owner : List ℕ) (c : ℕ) (x : ChunkRef) : Type 0 where
  pub class : 0 < c
  pub page : x.page < length owner
  pub owned : slice_index owner x.page ≡ c
  pub slot : x.slot < per_page f c

-- the lists of a class name only chunks of its pages; no chunk stands twice in all lists, and no mark twice in a queue
pub record WellListed (f : Fixed) (owner : List ℕ) (free : List (List ChunkRef)) (queues : List (List Entry)) : Type 0 where
  pub free_length : length free ≡ length f.sizes + 1
  pub queues_length : length queues ≡ 4 * (length f.sizes + 1)
  pub free_of_class : (c : ℕ) (x : ChunkRef) → has same_chunk x (slice_index_or free c []) ≡ true → IsChunkOf f owner c x
  pub queued_of_class : (c : ℕ) (q : Queue) (x : ChunkRef) → has same_entry (Chunk x) (slice_index_or queues (queue_place c q) []) ≡ true → IsChunkOf f owner c x
  pub once : (x : ChunkRef) → stands_in free queues x ≤ 1
  pub one_mark : (place : ℕ) → count same_entry Mark (slice_index_or queues place []) ≤ 1

-- the chunks of a queue have items; each item stands in a chunk of a page that a class owns, and in no free list
pub record WellFilled (f : Fixed) (owner : List ℕ) (free : List (List ChunkRef)) (queues : List (List Entry)) (content : Contents) : Type 0 where
  pub queued_items : (place : ℕ) (x : ChunkRef) → has same_entry (Chunk x) (slice_index_or queues place []) ≡ true → is_some (map.get content x) ≡ true
  pub items : (x : ChunkRef) → is_some (map.get content x) ≡ true → IsChunkOf f owner (slice_index owner x.page) x × ((c : ℕ) → has same_chunk x (slice_index_or free c []) ≡ false)

-- the index gives a key only a chunk whose item has that key
pub record WellIndexed (content : Contents) (index : Keys) : Type 0 where
  pub indexed : (k : List ℕ) (x : ChunkRef) → map.get index k ≡ Some x → (i : PlainItem) × (map.get content x ≡ Some i) × (i.key ≡ k)

-- owners are classes or the pool, and not too many pages are made
pub record WellOwned (f : Fixed) (owner : List ℕ) : Type 0 where
  pub owners : (p : ℕ) → slice_index owner p ≤ length f.sizes
  pub pages : length owner ≤ f.limit + 62

-- what every state between two moves keeps
pub record WellFormed (s : State) : Type 0 where
  pub lists : WellListed s.fixed s.owner s.free s.queues
  pub filled : WellFilled s.fixed s.owner s.free s.queues s.content
  pub index : WellIndexed s.content s.index
  pub owned : WellOwned s.fixed s.owner
  pub bump : length s.bump ≤ s.fixed.bump_room
  pub counters : length s.counters ≡ 7 * (last_class s + 1)

-- a class from 1 to the last
abbrev pub IsClass : Fixed → ℕ → Type 0
IsClass f c = (0 < c) × (c ≤ length f.sizes)
