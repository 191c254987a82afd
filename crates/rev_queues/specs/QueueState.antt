-- The queues as plain lists of entries with their footprints, and how those lists lie in the tables.
-- Rule of memcached: four queues a class, in which chunks stand and the crawler's mark.
-- Rule of this project: how these lie in the tables, with sums beside them.
use Rattle.std.specs.Prelude.{◌≡◌, ℕ, ◌<◌, ◌≤◌, ◌*◌, ◌+◌, Bool, true, false, Option, Some, None, List, [], length, map, option_map, replicate, slice_get, slice_index, slice_index_or}
use Rattle.std.specs.List.{range_with_len, sum_by}
use Rattle.rev_links.specs.declared.places.RingPlace.TheVariants.{End, At}
use Rattle.rev_links.specs.Rings.{walk, Path, In}
use Rattle.rev_model.specs.Chunk.{same_entry}
use Rattle.rev_model.specs.Lists.{has}
use Rattle.rev_model.specs.State.{queue_place}
use Rattle.rev_model.specs.declared.ChunkRef.{ChunkRef}
use Rattle.rev_model.specs.declared.Entry.{Entry}
use Rattle.rev_model.specs.declared.Entry.TheVariants as entry
use Rattle.rev_model.specs.declared.Queue.{Queue}
use Rattle.rev_queues.specs.declared.members.QueueId.{QueueId}
use Rattle.rev_queues.specs.declared.members.Member.{Member}
use Rattle.rev_queues.specs.declared.members.Member.TheVariants.{Chunk, Mark}
use Rattle.rev_queues.specs.declared.members.QueueSlot.{QueueSlot}
use Rattle.rev_queues.specs.declared.members.Standing.{Standing}
use Rattle.rev_queues.specs.declared.members.Tally.{Tally}
use Rattle.rev_queues.specs.Entries.{Queued, entries}
use Rattle.rev_queues.specs.Positions.{Position, PositionLink, next_in, previous_in, standing_at, footprint_in, footprint_of, told}

-- the queues, four places for each class, and how many slots each page has, 0 where it is not laid
pub record QueuesState : Type 0 where
  pub queues : List (List Queued)
  pub slots : List ℕ

-- the entries of a queue of a class, head first
abbrev pub line : QueuesState → ℕ → Queue → List Entry
line s c q = entries (slice_index_or s.queues (queue_place c q) [])

-- no entries in four queues for each class from 0 to the last, and no page laid
abbrev pub empty_queues : ℕ → ℕ → QueuesState
empty_queues last pages = record { queues = replicate (4 * (last + 1)) []; slots = replicate (pages + 62) 0 }

-- what may enter: a chunk that stands in no queue, or a mark that does not stand in this one
abbrev pub IsGone : List (List Queued) → ℕ → Entry → Type 0
IsGone queues place (entry.Chunk x) = (p : ℕ) → has same_entry (entry.Chunk x) (entries (slice_index_or queues p [])) ≡ false
IsGone queues place entry.Mark = has same_entry entry.Mark (entries (slice_index_or queues place [])) ≡ false

-- the chunk stands in one of the class's queues
abbrev pub StandsIn : List (List Queued) → ℕ → ChunkRef → Type 0
StandsIn queues class x = (q : Queue) × (has same_entry (entry.Chunk x) (entries (slice_index_or queues (queue_place class q) [])) ≡ true)

-- no chunk of the page stands in a queue
abbrev pub IsClear : List (List Queued) → ℕ → Type 0
IsClear queues page = (x : ChunkRef) → x.page ≡ page → (p : ℕ) → has same_entry (entry.Chunk x) (entries (slice_index_or queues p [])) ≡ false

-- a member as an entry: each queue has a mark of its own
abbrev pub entry_of : Member → Entry
entry_of (Chunk x) = entry.Chunk x
entry_of (Mark q) = entry.Mark

-- an entry of queue q as a member
abbrev pub member_of_entry : QueueId → Entry → Member
member_of_entry q (entry.Chunk x) = Chunk x
member_of_entry q entry.Mark = Mark q

-- the place of an entry, or the end of queue q
abbrev pub position_of : QueueId → Option Entry → Position
position_of q None = End q
position_of q (Some e) = At (member_of_entry q e)

-- the entry at a place
abbrev pub entry_at : Position → Option Entry
entry_at (End q) = None
entry_at (At m) = Some (entry_of m)

-- the entry is a mark
abbrev pub is_mark : Entry → Bool
is_mark (entry.Chunk x) = false
is_mark entry.Mark = true

-- the chunk at a place
abbrev pub chunk_at : Position → Option ChunkRef
chunk_at (End q) = None
chunk_at (At (Chunk x)) = Some x
chunk_at (At (Mark q)) = None

-- the bytes of an entry with so large a footprint
abbrev pub bytes_told : Entry → ℕ → ℕ
bytes_told (entry.Chunk x) n = n
bytes_told entry.Mark n = 0

-- which of all queues it is
abbrev pub id_of : ℕ → Queue → QueueId
id_of class queue = record { number = queue_place class queue }

-- ---- the tables
abbrev pub queued : List (List QueueSlot) → Member → Queued
queued slots m = record { entry = entry_of m; footprint = told slots m }

-- more than all chunks that two 16-bit numbers can name, and a mark
unfoldable pub all_members : ℕ
all_members = 4294967297

-- the members that are met from a queue's end on
unfoldable pub chain : List PositionLink → List PositionLink → List (List QueueSlot) → QueueId → List Member
chain ends marks slots q = walk (next_in ends marks slots) all_members (End q)

-- what a queue of the tables is
abbrev pub queue_at : List PositionLink → List PositionLink → List (List QueueSlot) → QueueId → List Queued
queue_at ends marks slots q = map (queued slots) (chain ends marks slots q)

-- what the tables are
abbrev pub state_of : List PositionLink → List PositionLink → List (List QueueSlot) → QueuesState
state_of ends marks slots = record { queues = map (λ n. queue_at ends marks slots (record { number = n })) (range_with_len 0 (length ends)); slots = map length slots }

-- what is counted of a list of members
abbrev pub tally_of : List (List QueueSlot) → List Member → Tally
tally_of slots xs = record { bytes = sum_by (told slots) xs; count = length xs; marked = has same_entry entry.Mark (map entry_of xs) }

-- the queue that a chunk's slot names
abbrev pub queue_in : Option Standing → Option QueueId
queue_in s = option_map (λ t. t.queue) s

-- every queue runs through the slots in both directions, no queue has another's mark, each chunk's slot names its
-- queue, and each tally counts its queue
pub record IsLinked (ends marks : List PositionLink) (slots : List (List QueueSlot)) (tallies : List Tally) : Type 0 where
  pub ring : (q : QueueId) → q.number < length ends → Path (next_in ends marks slots) (previous_in ends marks slots) (End q) (chain ends marks slots q) (End q)
  pub home : (q r : QueueId) → q.number < length ends → In (Mark r) (chain ends marks slots q) → r ≡ q
  pub stands : (q : QueueId) (x : ChunkRef) → q.number < length ends → In (Chunk x) (chain ends marks slots q) → queue_in (standing_at slots x) ≡ Some q
  pub tally : (q : QueueId) → q.number < length ends → slice_get tallies q.number ≡ Some (tally_of slots (chain ends marks slots q))
  pub small : (x : ChunkRef) → footprint_of slots x < 4294967296
  pub few : length ends ≤ 65536
  pub same_marks : length marks ≡ length ends
  pub pages : length slots < 65536
  pub slots_below : (p : ℕ) → slice_index (map length slots) p ≤ 65535

-- a page's slots: at most 65535, with footprints of 32 bits
pub record AreSlots (cells : List QueueSlot) : Type 0 where
  pub few : length cells ≤ 65535
  pub small : (i : ℕ) → footprint_in (option_map (λ (s : QueueSlot). s.standing) (slice_get cells i)) < 4294967296
