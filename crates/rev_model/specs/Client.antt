-- The steps of clients.
-- Rule of memcached: what set, add, replace, cas, append, prepend, incr, decr, get, touch, delete and flush_all do
-- (protocol.txt).
-- Rule of this project: the order of look-up, room and link within a step, and what `~evict` does.
use Rattle.std.specs.Prelude.{ℕ, ℤ, pos, negsuc, ◌+◌, ◌-◌, ◌*◌, ◌%◌, ◌^◌, Bool, true, cond, ◌&&◌, List, [], ◌∷◌, ◌++◌, Option, None, Some, length, nat_eq, nat_lt, nat_le}
use Rattle.std.specs.List.{list_all}
use Rattle.std.specs.Option.{option_map}
use Rattle.std.specs.Fmt.{decimal}
use Rattle.rev_items.specs.Plain.{PlainItem}
use Rattle.rev_model.specs.State.{State, owner_of, item_at, find}
use Rattle.rev_model.specs.Words.{class_of, is_dead, queue_with, counted, dropped, freed, with_item, new_item, linked}
use Rattle.rev_items.specs.Rules.{footprint, moment}
use Rattle.rev_model.specs.Pull.{room}
use Rattle.rev_model.specs.declared.ChunkRef.{ChunkRef}
use Rattle.rev_model.specs.declared.Counter.TheVariants as counter
use Rattle.rev_model.specs.declared.Queue.{Queue}
use Rattle.rev_model.specs.declared.Queue.TheVariants.{Hot, Warm, Cold, Temp}
use Rattle.rev_model.specs.declared.Outcome.{Outcome}
use Rattle.rev_model.specs.declared.Outcome.TheVariants.{Stored, NotStored, Exists, NotFound, Deleted, Touched, Okay, Hit, Miss, TooLarge, NoChunk, Evicted, Number, NotNumber}

-- the data of a command, or only how many bytes were skipped since they are too many
pub data Payload : Type 0 where
  Bytes : List ℕ → Payload
  Skipped : ℕ → Payload

-- the four verbs that store, `cas` with the number that it asks for
pub data Verb : Type 0 where
  Sets : Verb
  Adds : Verb
  Replaces : Verb
  Cases : ℕ → Verb

-- where new data are put
pub data Side : Type 0 where
  Appends : Side
  Prepends : Side

-- which way a number goes
pub data Sum : Type 0 where
  Increases : Sum
  Decreases : Sum

-- a step of a client
pub data ClientStep : Type 0 where
  -- key, flags, exptime, data
  Stores : Verb → List ℕ → ℕ → ℤ → Payload → ClientStep
  Joins : Side → List ℕ → Payload → ClientStep
  Gets : List ℕ → ClientStep
  Touches : List ℕ → ℤ → ClientStep
  Deletes : List ℕ → ClientStep
  Evicts : List ℕ → ClientStep
  Flushes : Option ℤ → ClientStep
  Counts : Sum → List ℕ → ℕ → ClientStep

-- ---- lookup and hit

-- what an item that is found leaves and gives: a dead one is unlinked and its chunk freed
abbrev pub looked_item : State → ChunkRef → Option PlainItem → State × Option (ChunkRef × PlainItem)
looked_item s x None = (s, None)
looked_item s x (Some i) = cond (is_dead s.globals i) (dropped (owner_of s x.page) (queue_with s (owner_of s x.page) x) x i s, None) (s, Some (x, i))

-- a lookup by the chunk of the key
abbrev pub looked_at : State → Option ChunkRef → State × Option (ChunkRef × PlainItem)
looked_at s None = (s, None)
looked_at s (Some x) = looked_item s x (item_at s x)

-- a lookup of a key
abbrev pub lookup : State → List ℕ → State × Option (ChunkRef × PlainItem)
lookup s k = looked_at s (find s k)

-- a further hit: outside COLD the item is ACTIVE from now on; in COLD it is so with an entry in the bump queue, if
-- that has room
abbrev pub hit_again : State → Queue → ChunkRef → PlainItem → State
hit_again s Hot x i = with_item x (record i { bits = record i.bits { active = true }; time = s.globals.clock }) s
hit_again s Warm x i = with_item x (record i { bits = record i.bits { active = true }; time = s.globals.clock }) s
hit_again s Temp x i = with_item x (record i { bits = record i.bits { active = true }; time = s.globals.clock }) s
hit_again s Cold x i = cond (nat_lt (length s.bump) s.fixed.bump_room) (with_item x (record i { bits = record i.bits { active = true } }) (record s { bump = s.bump ++ record { chunk = x; cas = i.cas } ∷ [] })) s

-- a hit: the first one sets FETCHED, and one on an item that is ACTIVE does nothing
abbrev pub hit : State → ChunkRef → PlainItem → State
hit s x i = cond i.bits.active s (cond i.bits.fetched (hit_again s (queue_with s (owner_of s x.page) x) x i) (with_item x (record i { bits = record i.bits { fetched = true } }) s))

-- an item that was found leaves
abbrev pub removed : Option (ChunkRef × PlainItem) → State → State
removed None s = s
removed (Some (x, i)) s = dropped (owner_of s x.page) (queue_with s (owner_of s x.page) x) x i s

-- ---- set, add, replace, cas

-- the data; of skipped ones none are known
abbrev pub bytes_of : Payload → List ℕ
bytes_of (Bytes bs) = bs
bytes_of (Skipped n) = []

-- the class that such an item lies in; skipped data fit none
abbrev pub class_for : State → List ℕ → ℕ → Payload → Option ℕ
class_for s k flags (Bytes bs) = class_of s.fixed (footprint (length k) flags (length bs))
class_for s k flags (Skipped n) = None

-- why nothing is stored, by what the lookup found
abbrev pub refusal : Verb → Option (ChunkRef × PlainItem) → Option Outcome
refusal Sets o = None
refusal Adds None = None
refusal Adds (Some f) = Some NotStored
refusal Replaces None = Some NotStored
refusal Replaces (Some f) = None
refusal (Cases n) None = Some NotFound
refusal (Cases n) (Some (x, i)) = cond (nat_eq i.cas n) None (Some Exists)

-- what is done where nothing is stored for want of a class or a chunk: a set takes the old item out
abbrev pub failed : Verb → List ℕ → Outcome → State → State × Outcome
failed Sets k o s = (removed (lookup s k).1 (lookup s k).0, o)
failed Adds k o s = (s, o)
failed Replaces k o s = (s, o)
failed (Cases n) k o s = (s, o)

-- the new item in its chunk, with the old one gone
abbrev pub renewed : ℕ → ChunkRef → List ℕ → List ℕ → ℕ → ℕ → Option (ChunkRef × PlainItem) → State → State
renewed c x k value flags m old s = linked c x (new_item s k value flags m) (removed old s)

-- the new item is stored, or its chunk goes back
abbrev pub settled_by : ℕ → ChunkRef → List ℕ → List ℕ → ℕ → ℤ → State × Option (ChunkRef × PlainItem) → Option Outcome → State × Outcome
settled_by c x k value flags e (s, old) None = (renewed c x k value flags (moment s.globals.clock e) old s, Stored)
settled_by c x k value flags e (s, old) (Some o) = (freed c x s, o)

-- behind the lookup
abbrev pub settled : Verb → ℕ → ChunkRef → List ℕ → List ℕ → ℕ → ℤ → State × Option (ChunkRef × PlainItem) → State × Outcome
settled v c x k value flags e (s, old) = settled_by c x k value flags e (s, old) (refusal v old)

-- behind room
abbrev pub stored_room : Verb → ℕ → List ℕ → List ℕ → ℕ → ℤ → State × Option ChunkRef → State × Outcome
stored_room v c k value flags e (s, None) = failed v k NoChunk s
stored_room v c k value flags e (s, Some x) = settled v c x k value flags e (lookup s k)

-- by the class of the new item
abbrev pub stored_class : State → Verb → List ℕ → List ℕ → ℕ → ℤ → Option ℕ → State × Outcome
stored_class s v k value flags e None = failed v k TooLarge s
stored_class s v k value flags e (Some c) = stored_room v c k value flags e (room s c)

-- set, add, replace, cas
abbrev pub store : State → Verb → List ℕ → ℕ → ℤ → Payload → State × Outcome
store s v k flags e d = stored_class s v k (bytes_of d) flags e (class_for s k flags d)

-- ---- append, prepend, incr, decr

-- the new item takes the place of the old one, where the second lookup still finds that
abbrev pub rewritten_old : ℕ → ChunkRef → List ℕ → List ℕ → ℕ → ℕ → Outcome → Outcome → State × Option (ChunkRef × PlainItem) → State × Outcome
rewritten_old c x k value flags m gone done (s, None) = (freed c x s, gone)
rewritten_old c x k value flags m gone done (s, Some f) = (renewed c x k value flags m (Some f) s, done)

-- behind room
abbrev pub rewritten_room : ℕ → List ℕ → List ℕ → ℕ → ℕ → Outcome → Outcome → State × Option ChunkRef → State × Outcome
rewritten_room c k value flags m gone done (s, None) = (s, NoChunk)
rewritten_room c k value flags m gone done (s, Some x) = rewritten_old c x k value flags m gone done (lookup s k)

-- by the class of the new item
abbrev pub rewritten_class : State → List ℕ → List ℕ → ℕ → ℕ → Outcome → Outcome → Option ℕ → State × Outcome
rewritten_class s k value flags m gone done None = (s, TooLarge)
rewritten_class s k value flags m gone done (Some c) = rewritten_room c k value flags m gone done (room s c)

-- the data of the item i, which was found, become these
abbrev pub rewritten : State → PlainItem → Payload → Outcome → Outcome → State × Outcome
rewritten s i d gone done = rewritten_class s i.key (bytes_of d) i.flags i.moment gone done (class_for s i.key i.flags d)

-- the data behind or before the old ones
abbrev pub joined : Side → List ℕ → Payload → Payload
joined Appends old (Bytes bs) = Bytes (old ++ bs)
joined Prepends old (Bytes bs) = Bytes (bs ++ old)
joined side old (Skipped n) = Skipped n

-- behind the first lookup
abbrev pub join_found : Side → Payload → State × Option (ChunkRef × PlainItem) → State × Outcome
join_found side d (s, None) = (s, NotStored)
join_found side d (s, Some (x, i)) = rewritten s i (joined side i.value d) NotStored Stored

-- append and prepend
abbrev pub join : State → Side → List ℕ → Payload → State × Outcome
join s side k d = join_found side d (lookup s k)

-- 1 to 20 digits of at most 64 bits
abbrev pub is_digit : ℕ → Bool
is_digit b = nat_le 48 b && nat_le b 57

-- the number of n and these digits behind it
abbrev pub digits_from : ℕ → List ℕ → ℕ
digits_from n [] = n
digits_from n (b ∷ bs) = digits_from (10 * n + (b - 48)) bs

-- the data are a number that incr and decr take
abbrev pub is_number : List ℕ → Bool
is_number bs = nat_lt 0 (length bs) && (nat_le (length bs) 20 && (list_all is_digit bs && nat_lt (digits_from 0 bs) (2 ^ 64)))

-- incr wraps at 64 bits, and decr stops at 0
abbrev pub summed : Sum → ℕ → ℕ → ℕ
summed Increases n d = (n + d) % 2 ^ 64
summed Decreases n d = n - d

-- the item's data become this number
abbrev pub count_as : State → PlainItem → ℕ → State × Outcome
count_as s i n = rewritten s i (Bytes (decimal n)) NotFound (Number n)

-- behind the first lookup
abbrev pub count_found : Sum → ℕ → State × Option (ChunkRef × PlainItem) → State × Outcome
count_found side d (s, None) = (s, NotFound)
count_found side d (s, Some (x, i)) = cond (is_number i.value) (count_as s i (summed side (digits_from 0 i.value) d)) (s, NotNumber)

-- incr and decr
abbrev pub count : State → Sum → List ℕ → ℕ → State × Outcome
count s side k d = count_found side d (lookup s k)

-- ---- get, touch, delete, ~evict, flush_all

-- a hit answers the size of the data and the cas number
abbrev pub get_found : State × Option (ChunkRef × PlainItem) → State × Outcome
get_found (s, None) = (s, Miss)
get_found (s, Some (x, i)) = (hit s x i, Hit (length i.value) i.cas)

-- a get of one key: a hit where the item is found
abbrev pub get : State → List ℕ → State × Outcome
get s k = get_found (lookup s k)

-- the item gets this moment of expiry
abbrev pub until : ℕ → ChunkRef → Option PlainItem → State → State
until m x None s = s
until m x (Some i) s = with_item x (record i { moment = m }) s

-- a hit, and then the new moment
abbrev pub touch_found : ℤ → State × Option (ChunkRef × PlainItem) → State × Outcome
touch_found e (s, None) = (s, NotFound)
touch_found e (s, Some (x, i)) = (until (moment s.globals.clock e) x (item_at (hit s x i) x) (hit s x i), Touched)

-- touch
abbrev pub touch : State → List ℕ → ℤ → State × Outcome
touch s k e = touch_found e (lookup s k)

-- the item that was found leaves
abbrev pub delete_found : State × Option (ChunkRef × PlainItem) → State × Outcome
delete_found (s, None) = (s, NotFound)
delete_found (s, Some f) = (removed (Some f) s, Deleted)

-- delete
abbrev pub delete : State → List ℕ → State × Outcome
delete s k = delete_found (lookup s k)

-- the item that a key leads to, alive or dead
abbrev pub item_led_to : State → Option ChunkRef → Option (ChunkRef × PlainItem)
item_led_to s None = None
item_led_to s (Some x) = option_map (λ i. (x, i)) (item_at s x)

-- the item leaves as one that a pull of COLD evicts does: it is counted as an eviction of its class, and its chunk comes
-- to the front of the class's free list
abbrev pub evict_found : State × Option (ChunkRef × PlainItem) → State × Outcome
evict_found (s, None) = (s, NotFound)
evict_found (s, Some (x, i)) = (counted (owner_of s x.page) counter.Evicted (removed (Some (x, i)) s), Evicted)

-- ~evict: nothing is asked of the item's lifetime, since a pull takes an item as alive in the second of its end
abbrev pub evict : State → List ℕ → State × Outcome
evict s k = evict_found (s, item_led_to s (find s k))

-- the moment of a flush; 0 is at once
abbrev pub flush_moment : ℕ → Option ℤ → ℕ
flush_moment now None = 0
flush_moment now (Some (pos n)) = moment now (pos n)
flush_moment now (Some (negsuc n)) = 0

-- a flush at a moment: at once where it is not after the clock, else it is pending
abbrev pub flush_at : State → ℕ → State
flush_at s m = cond (nat_le m s.globals.clock) (record s { globals = record s.globals { flush_limit = s.globals.last_cas; flush = None } }) (record s { globals = record s.globals { flush = Some m } })

-- flush_all
abbrev pub flush_all : State → Option ℤ → State × Outcome
flush_all s d = (flush_at s (flush_moment s.globals.clock d), Okay)

-- a step of a client
abbrev pub client : State → ClientStep → State × Outcome
client s (Stores v k flags e d) = store s v k flags e d
client s (Joins side k d) = join s side k d
client s (Gets k) = get s k
client s (Touches k e) = touch s k e
client s (Deletes k) = delete s k
client s (Evicts k) = evict s k
client s (Flushes d) = flush_all s d
client s (Counts side k d) = count s side k d
