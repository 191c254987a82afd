-- Rules on values, sums over queues, and the changes that steps are made of.
-- Rule of memcached: the share and the age of a queue, by which it is full or its tail is old; TEMP for what dies
-- soon (new_lru.txt).
-- Rule of this project: shares of bytes in per cent, ages in thousandths, on whole numbers.
use Rattle.std.specs.Prelude.{ℕ, ℤ, pos, negsuc, ◌+◌, ◌-◌, ◌*◌, ◌/◌, ◌%◌, ◌^◌, Bool, false, cond, not, ◌&&◌, List, [], ◌∷◌, Option, None, Some, slice_index_or, slice_set, nat_eq, nat_lt}
use Rattle.std.specs.List.{sum_by}
use Rattle.std.specs.FinMap as map
use Rattle.rev_classes.specs.Sizes.{class_from}
use Rattle.rev_items.specs.Plain.{PlainItem}
use Rattle.rev_items.specs.Rules.{footprint_of, is_past}
use Rattle.rev_model.specs.Chunk.{same_entry}
use Rattle.rev_model.specs.Lists.{has, without}
use Rattle.rev_model.specs.State.{State, Fixed, Contents, free_of, queue_of, queue_place, counter_of, counter_place, item_at}
use Rattle.rev_model.specs.declared.ChunkRef.{ChunkRef}
use Rattle.rev_model.specs.declared.Entry.{Entry}
use Rattle.rev_model.specs.declared.Entry.TheVariants.{Chunk, Mark}
use Rattle.rev_model.specs.declared.Queue.{Queue}
use Rattle.rev_model.specs.declared.Queue.TheVariants.{Hot, Warm, Cold, Temp}
use Rattle.rev_model.specs.declared.Counter.{Counter}
use Rattle.rev_model.specs.declared.Globals.{Globals}
use Rattle.rev_model.specs.declared.Settings.{Settings}
use Rattle.rev_model.specs.declared.ItemHeader.{ItemHeader}

-- the smallest class whose chunk holds so much
abbrev pub class_of : Fixed → ℕ → Option ℕ
class_of f n = class_from 1 f.sizes n

-- a dead item: its moment is past, or a flush covers its cas number
abbrev pub is_dead : Globals → PlainItem → Bool
is_dead g i = is_past g.clock g.flush_limit i.moment i.cas

-- what is read of an item at a time
abbrev pub header_of : PlainItem → ItemHeader
header_of i = record { flags = i.flags; moment = i.moment; time = i.time; cas = i.cas; bits = i.bits }

-- the queue that a new item enters: TEMP where it is to die soon, else HOT
abbrev pub is_brief : ℤ → ℕ → ℕ → Bool
is_brief (pos ttl) now m = not (nat_eq m 0) && nat_lt (m - now) ttl
is_brief (negsuc n) now m = false

-- the queue that a new item with this moment enters
abbrev pub queue_for : Globals → ℕ → Queue
queue_for g m = cond (is_brief g.settings.temp_ttl g.clock m) Temp Hot

-- the last entry that is not a mark
abbrev pub later : Option ChunkRef → Entry → Option ChunkRef
later (Some x) e = Some x
later None (Chunk x) = Some x
later None Mark = None

-- the front chunk
abbrev pub first : List ChunkRef → Option ChunkRef
first [] = None
first (x ∷ xs) = Some x

-- the last chunk, marks passed by
abbrev pub tail : List Entry → Option ChunkRef
tail [] = None
tail (e ∷ es) = later (tail es) e

-- how many bytes a queue holds: the sum of its items' footprints
abbrev pub size_of : Option PlainItem → ℕ
size_of None = 0
size_of (Some i) = footprint_of i

-- the bytes that an entry counts
abbrev pub weight : Contents → Entry → ℕ
weight m (Chunk x) = size_of (map.get m x)
weight m Mark = 0

-- the bytes of a queue
abbrev pub bytes : State → ℕ → Queue → ℕ
bytes s c q = sum_by (weight s.content) (queue_of s c q)

-- the share of a queue in the bytes of its class, in per cent
abbrev pub share : Settings → Queue → ℕ
share g Hot = g.hot_share
share g Warm = g.warm_share
share g Cold = 0
share g Temp = 0

-- how old the items of a queue may get, in thousandths of the age of COLD's last
abbrev pub factor : Settings → Queue → ℕ
factor g Hot = g.hot_factor
factor g Warm = g.warm_factor
factor g Cold = 0
factor g Temp = 0

-- the queue has more than its share of the bytes of HOT, WARM and COLD
abbrev pub over : State → ℕ → Queue → Bool
over s c q = nat_lt (((bytes s c Hot + bytes s c Warm + bytes s c Cold) * share s.globals.settings q) / 100) (bytes s c q)

-- since when, in the clock's seconds
abbrev pub age : State → Option PlainItem → ℕ
age s None = 0
age s (Some i) = s.globals.clock - i.time

-- the age of the item in a chunk, 0 where there is none
abbrev pub age_at : State → Option ChunkRef → ℕ
age_at s None = 0
age_at s (Some x) = age s (item_at s x)

-- what was used last at t is older than the queue's factor allows
abbrev pub idle_since : State → ℕ → Queue → ℕ → Bool
idle_since s c q t = nat_lt ((factor s.globals.settings q * age_at s (tail (queue_of s c Cold))) / 1000) (s.globals.clock - t)

-- the item was used so long ago
abbrev pub idle : State → ℕ → Queue → PlainItem → Bool
idle s c q i = idle_since s c q i.time

-- the queue of the class that the chunk stands in
abbrev pub queue_among : List (List Entry) → ℕ → ChunkRef → Queue
queue_among queues c x = cond (has same_entry (Chunk x) (slice_index_or queues (queue_place c Hot) [])) Hot (cond (has same_entry (Chunk x) (slice_index_or queues (queue_place c Warm) [])) Warm (cond (has same_entry (Chunk x) (slice_index_or queues (queue_place c Cold) [])) Cold Temp))

-- the same in a state
abbrev pub queue_with : State → ℕ → ChunkRef → Queue
queue_with s c x = queue_among s.queues c x

-- ---- changes

-- the item leaves its queue, the index and its chunk, which is then in no list
abbrev pub unlinked : ℕ → Queue → ChunkRef → PlainItem → State → State
unlinked c q x i s = record s {
  queues = slice_set s.queues (queue_place c q) (without same_entry (Chunk x) (queue_of s c q));
  content = map.remove s.content x;
  index = map.remove s.index i.key;
}

-- the chunk goes to the front of its class's free list
abbrev pub freed : ℕ → ChunkRef → State → State
freed c x s = record s { free = slice_set s.free c (x ∷ free_of s c) }

-- both, one after the other: the item leaves, and its chunk is free
abbrev pub dropped : ℕ → Queue → ChunkRef → PlainItem → State → State
dropped c q x i s = freed c x (unlinked c q x i s)

-- a counter is one more, modulo 2 ^ 64
abbrev pub counted : ℕ → Counter → State → State
counted c k s = record s { counters = slice_set s.counters (counter_place c k) ((counter_of s c k + 1) % 2 ^ 64) }

-- from one queue of the class to the head of another, or of the same
abbrev pub left : ℕ → Queue → ChunkRef → State → State
left c q x s = record s { queues = slice_set s.queues (queue_place c q) (without same_entry (Chunk x) (queue_of s c q)) }

-- the chunk enters at the head of a queue
abbrev pub entered : ℕ → Queue → ChunkRef → State → State
entered c q x s = record s { queues = slice_set s.queues (queue_place c q) (Chunk x ∷ queue_of s c q) }

-- the chunk goes from queue q to the head of queue p
abbrev pub headed : ℕ → Queue → Queue → ChunkRef → State → State
headed c q p x s = entered c p x (left c q x s)

-- the chunk holds this item
abbrev pub with_item : ChunkRef → PlainItem → State → State
with_item x i s = record s { content = map.insert s.content x i }

-- the item without ACTIVE
abbrev pub inactive : PlainItem → PlainItem
inactive i = record i { bits = record i.bits { active = false } }

-- an item as it is linked, and the state with it in its chunk, in the index and at its queue's head
abbrev pub new_item : State → List ℕ → List ℕ → ℕ → ℕ → PlainItem
new_item s key value flags m = record { key = key; value = value; flags = flags; moment = m; time = s.globals.clock; cas = (s.globals.last_cas + 1) % 2 ^ 64; bits = record { fetched = false; active = false } }

-- the state with it in its chunk, in the index and at its queue's head
abbrev pub linked : ℕ → ChunkRef → PlainItem → State → State
linked c x i s = entered c (queue_for s.globals i.moment) x (record s {
  content = map.insert s.content x i;
  index = map.insert s.index i.key x;
  globals = record s.globals { last_cas = i.cas };
})
