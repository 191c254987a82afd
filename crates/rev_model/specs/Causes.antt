-- Which keys a step takes out of the index, in their order, each with its cause, or none where the key is stored again.
-- Rule of this project: the causes that `:why` and `:story` tell, step by step.
use Rattle.std.specs.Prelude.{ℕ, zero, suc, cond, List, [], ◌++◌, Option, None, Some, nat_eq}
use Rattle.std.specs.Fmt.{decimal}
use Rattle.rev_items.specs.Plain.{PlainItem}
use Rattle.rev_model.specs.Chunk.{same_entry}
use Rattle.rev_model.specs.Lists.{has, before}
use Rattle.rev_model.specs.Move.{is_class}
use Rattle.rev_model.specs.State.{State, free_of, queue_of, item_at, find, per_page}
use Rattle.rev_model.specs.Words.{is_dead, tail}
use Rattle.rev_model.specs.Pull.{evicts, given, squeezed, room}
use Rattle.rev_model.specs.Client.{ClientStep, Stores, Joins, Gets, Touches, Deletes, Evicts, Flushes, Counts, Verb, Sets, Adds, Replaces, Cases, Side, Sum, Payload, Bytes, lookup, item_led_to, refusal, class_for, joined, is_number, digits_from, summed}
use Rattle.rev_model.specs.Actor.{Step, Client, Pull, Bump, CrawlStart, Crawl, Schedule, Advance, Clock, Tune, TempTtl, spare}
use Rattle.rev_model.specs.Track.{Removal, removal}
use Rattle.rev_model.specs.declared.Cause.{Cause}
use Rattle.rev_model.specs.declared.Cause.TheVariants.{Evicted, ReclaimedByPull, ReclaimedByCrawler, ReclaimedByHit, ReclaimedByMover, EvictedByMover, Deleted, DroppedByFailedSet}
use Rattle.rev_model.specs.declared.ChunkRef.{ChunkRef}
use Rattle.rev_model.specs.declared.Entry.{Entry}
use Rattle.rev_model.specs.declared.Entry.TheVariants.{Chunk, Mark}
use Rattle.rev_model.specs.declared.Mover.{Mover}
use Rattle.rev_model.specs.declared.Outcome.{Outcome}
use Rattle.rev_model.specs.declared.Queue.{Queue}
use Rattle.rev_model.specs.declared.Queue.TheVariants.{Hot, Warm, Cold, Temp}
use Rattle.rev_model.specs.declared.PullMode.{PullMode}
use Rattle.rev_model.specs.declared.PullMode.TheVariants.{Plain, Evicting, ShareZero}

-- ---- pull and room

-- of a live item: only COLD is evicted from
abbrev pub live_removals : Queue → PullMode → PlainItem → List Removal
live_removals Hot m i = []
live_removals Warm m i = []
live_removals Cold m i = cond (evicts m) (removal (Some i) (Some Evicted)) []
live_removals Temp m i = []

-- of an item: a dead one is reclaimed
abbrev pub item_removals : State → Queue → PullMode → Option PlainItem → List Removal
item_removals s q m None = []
item_removals s q m (Some i) = cond (is_dead s.globals i) (removal (Some i) (Some ReclaimedByPull)) (live_removals q m i)

-- of the entry that the pull looks at
abbrev pub tail_removals : State → Queue → PullMode → Option ChunkRef → List Removal
tail_removals s q m None = []
tail_removals s q m (Some x) = item_removals s q m (item_at s x)

-- of a pull
abbrev pub pull_removals : State → ℕ → Queue → PullMode → List Removal
pull_removals s c q m = tail_removals s q m (tail (queue_of s c q))

-- of the pull of a round: COLD evicts, or HOT is pulled where COLD holds no item
abbrev pub squeeze_removals_by : State → ℕ → Option ChunkRef → List Removal
squeeze_removals_by s c (Some x) = pull_removals s c Cold Evicting
squeeze_removals_by s c None = pull_removals s c Hot ShareZero

-- of a round that gets no chunk
abbrev pub squeeze_removals : State → ℕ → List Removal
squeeze_removals s c = squeeze_removals_by s c (tail (queue_of s c Cold))

-- nothing where there is a chunk, or else these
abbrev pub none_or : Option (State × ChunkRef) → List Removal → List Removal
none_or (Some r) rs = []
none_or None rs = rs

-- a round that gets a chunk removes nothing; else what it pulls, and the later rounds
abbrev pub room_removals_by : ℕ → State → ℕ → List Removal
room_removals_by zero s c = []
room_removals_by (suc k) s c = none_or (given s c) (squeeze_removals s c ++ room_removals_by k (squeezed s c) c)

-- of room: ten rounds
abbrev pub room_removals : State → ℕ → List Removal
room_removals s c = room_removals_by 10 s c

-- ---- lookups

-- of an item that a lookup meets: a dead one
abbrev pub dead_removals : State → Option PlainItem → List Removal
dead_removals s None = []
dead_removals s (Some i) = cond (is_dead s.globals i) (removal (Some i) (Some ReclaimedByHit)) []

-- of a lookup, by the chunk of the key
abbrev pub looked_removals : State → Option ChunkRef → List Removal
looked_removals s None = []
looked_removals s (Some x) = dead_removals s (item_at s x)

-- of a lookup: a dead item
abbrev pub look_removals : State → List ℕ → List Removal
look_removals s k = looked_removals s (find s k)

-- of an item that goes for this cause
abbrev pub found_removals : Option Cause → Option (ChunkRef × PlainItem) → List Removal
found_removals cause None = []
found_removals cause (Some (x, i)) = removal (Some i) cause

-- of a lookup, and of what it found
abbrev pub clear_removals : Option Cause → State → List ℕ → List Removal
clear_removals cause s k = look_removals s k ++ found_removals cause (lookup s k).1

-- ---- set, add, replace, cas

-- where nothing is stored for want of a class or a chunk: only a set takes the old item out
abbrev pub failed_removals : Verb → State → List ℕ → List Removal
failed_removals Sets s k = clear_removals (Some DroppedByFailedSet) s k
failed_removals Adds s k = []
failed_removals Replaces s k = []
failed_removals (Cases n) s k = []

-- where the new item is stored, what the lookup found makes way
abbrev pub settled_removals : Option (ChunkRef × PlainItem) → Option Outcome → List Removal
settled_removals old None = found_removals None old
settled_removals old (Some o) = []

-- behind room: without a chunk nothing is stored; else the lookup, and what makes way
abbrev pub after_room : Verb → List ℕ → State × Option ChunkRef → List Removal
after_room v k (t, None) = failed_removals v t k
after_room v k (t, Some x) = look_removals t k ++ settled_removals (lookup t k).1 (refusal v (lookup t k).1)

-- of an item of class c
unfoldable pub store_in_removals : State → Verb → ℕ → List ℕ → List Removal
store_in_removals s v c k = room_removals s c ++ after_room v k (room s c)

-- of the verbs, by the class of the new item
abbrev pub stored_removals : State → Verb → List ℕ → Option ℕ → List Removal
stored_removals s v k None = failed_removals v s k
stored_removals s v k (Some c) = store_in_removals s v c k

-- of set, add, replace and cas
abbrev pub store_removals : State → Verb → List ℕ → ℕ → Payload → List Removal
store_removals s v k flags d = stored_removals s v k (class_for s k flags d)

-- ---- append, prepend, incr, decr

-- the old item, where room left it, makes way for the new one
abbrev pub after_rewrite : List ℕ → State × Option ChunkRef → List Removal
after_rewrite k (t, None) = []
after_rewrite k (t, Some x) = clear_removals None t k

-- of an item of class c that takes the place of another
unfoldable pub rewrite_in_removals : State → ℕ → List ℕ → List Removal
rewrite_in_removals s c k = room_removals s c ++ after_rewrite k (room s c)

-- by the class of the new item
abbrev pub rewritten_removals : State → List ℕ → Option ℕ → List Removal
rewritten_removals s k None = []
rewritten_removals s k (Some c) = rewrite_in_removals s c k

-- the item i, which was found, gets these data
abbrev pub rewrite_removals : State → PlainItem → Payload → List Removal
rewrite_removals s i d = rewritten_removals s i.key (class_for s i.key i.flags d)

-- of append and prepend, behind the first lookup
abbrev pub join_found_removals : Side → Payload → State × Option (ChunkRef × PlainItem) → List Removal
join_found_removals side d (s, None) = []
join_found_removals side d (s, Some (x, i)) = rewrite_removals s i (joined side i.value d)

-- of append and prepend
abbrev pub join_removals : State → Side → List ℕ → Payload → List Removal
join_removals s side k d = look_removals s k ++ join_found_removals side d (lookup s k)

-- of incr and decr, behind the first lookup
abbrev pub count_found_removals : Sum → ℕ → State × Option (ChunkRef × PlainItem) → List Removal
count_found_removals side d (s, None) = []
count_found_removals side d (s, Some (x, i)) = cond (is_number i.value) (rewrite_removals s i (Bytes (decimal (summed side (digits_from 0 i.value) d)))) []

-- of incr and decr
abbrev pub count_removals : State → Sum → List ℕ → ℕ → List Removal
count_removals s side k d = look_removals s k ++ count_found_removals side d (lookup s k)

-- of a client's step
abbrev pub client_removals : State → ClientStep → List Removal
client_removals s (Stores v k flags e d) = store_removals s v k flags d
client_removals s (Joins side k d) = join_removals s side k d
client_removals s (Gets k) = look_removals s k
client_removals s (Touches k e) = look_removals s k
client_removals s (Deletes k) = clear_removals (Some Deleted) s k
client_removals s (Evicts k) = found_removals (Some Evicted) (item_led_to s (find s k))
client_removals s (Flushes d) = []
client_removals s (Counts side k d) = count_removals s side k d

-- ---- the actors

-- of an item that the crawler comes to: a dead one
abbrev pub crawl_item_removals : State → Option PlainItem → List Removal
crawl_item_removals s None = []
crawl_item_removals s (Some i) = cond (is_dead s.globals i) (removal (Some i) (Some ReclaimedByCrawler)) []

-- of the entry in front of the mark
abbrev pub crawl_entry_removals : State → Option Entry → List Removal
crawl_entry_removals s None = []
crawl_entry_removals s (Some (Chunk x)) = crawl_item_removals s (item_at s x)
crawl_entry_removals s (Some Mark) = []

-- a crawl removes the entry in front of the mark, where that is dead
abbrev pub crawl_removals : State → ℕ → Queue → List Removal
crawl_removals s c q = cond (is_class s c) (cond (has same_entry Mark (queue_of s c q)) (crawl_entry_removals s (before same_entry Mark (queue_of s c q))) []) []

-- of a live item that the mover comes to
abbrev pub rescue_removals : PlainItem → Option ChunkRef → List Removal
rescue_removals i None = removal (Some i) (Some EvictedByMover)
rescue_removals i (Some y) = []

-- of what stands in a chunk that the mover comes to
abbrev pub cleared_removals : State → ℕ → ChunkRef → Option PlainItem → List Removal
cleared_removals s c x None = []
cleared_removals s c x (Some i) = cond (is_dead s.globals i) (removal (Some i) (Some ReclaimedByMover)) (rescue_removals i (spare x.page (free_of s c)))

-- an advance removes what stands at the mover's slot, where it is dead or no chunk is had for it
abbrev pub advance_removals_of : State → Option Mover → List Removal
advance_removals_of s None = []
advance_removals_of s (Some m) = cond (nat_eq m.slot (per_page s.fixed m.src)) [] (cleared_removals s m.src record { page = m.page; slot = m.slot } (item_at s record { page = m.page; slot = m.slot }))

-- of a step of the page mover
abbrev pub advance_removals : State → List Removal
advance_removals s = advance_removals_of s s.globals.mover

-- of the maintainer's pull
abbrev pub pull_step_removals : State → ℕ → Queue → List Removal
pull_step_removals s c q = cond (is_class s c) (pull_removals s c q Plain) []

-- ---- any step

-- of any step
abbrev pub step_removals : State → Step → List Removal
step_removals s (Client e) = client_removals s e
step_removals s (Pull c q) = pull_step_removals s c q
step_removals s Bump = []
step_removals s (CrawlStart set) = []
step_removals s (Crawl c q) = crawl_removals s c q
step_removals s (Schedule src dst) = []
step_removals s Advance = advance_removals s
step_removals s (Clock n) = []
step_removals s (Tune a b c d) = []
step_removals s (TempTtl n) = []
