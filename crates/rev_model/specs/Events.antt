-- What a step does to a key, told by the states at its two ends, and the cause where the key leaves the index.
-- Rule of this project: what an event of a key is, said by states alone and not by how the step is made.
use Rattle.std.specs.Prelude.{ℕ, Bool, true, false, cond, not, ◌==◌, List, [], ◌∷◌, Option, None, Some, is_some}
use Rattle.std.specs.Option.{option_map}
use Rattle.rev_items.specs.Plain.{PlainItem}
use Rattle.rev_model.specs.State.{State, item_at, find, queue_number}
use Rattle.rev_model.specs.Words.{is_dead}
use Rattle.rev_model.specs.Pull.{room}
use Rattle.rev_model.specs.Client.{ClientStep, Stores, Joins, Gets, Touches, Deletes, Evicts, Flushes, Counts, Verb, Sets, Adds, Replaces, Cases, Side, Sum, Payload, Bytes, lookup, item_led_to, removed, class_for, joined, is_number, digits_from, summed}
use Rattle.rev_model.specs.Actor.{Step, Client, Pull, Bump, CrawlStart, Crawl, Schedule, Advance, Clock, Tune, TempTtl, step}
use Rattle.rev_model.specs.Track.{held, same_key, key_place_of, class_queue_of}
use Rattle.std.specs.Fmt.{decimal}
use Rattle.rev_model.specs.declared.ChunkRef.{ChunkRef}
use Rattle.rev_model.specs.declared.Cause.{Cause}
use Rattle.rev_model.specs.declared.Cause.TheVariants.{Evicted, ReclaimedByPull, ReclaimedByCrawler, ReclaimedByHit, ReclaimedByMover, EvictedByMover, Deleted, DroppedByFailedSet}
use Rattle.rev_model.specs.declared.ClassQueue.{ClassQueue}
use Rattle.rev_model.specs.declared.KeyPlace.{KeyPlace}
use Rattle.rev_model.specs.declared.Outcome.{Outcome}
use Rattle.rev_model.specs.declared.Outcome.TheVariants as outcome
use Rattle.rev_model.specs.declared.EventKind.{EventKind}
use Rattle.rev_model.specs.declared.EventKind.TheVariants as kind

-- ---- the parts of a step that may take a key out of the index

-- the parts
pub data Part : Type 0 where
  -- the search for a chunk, which evicts and reclaims
  ByRoom : Part
  -- the lookup of the step's own key, which reclaims a dead item
  ByLookup : Part
  -- what the lookup found goes, in a delete, and in a set that stores nothing
  ByDelete : Part
  ByFailedSet : Part
  -- the key's item goes, alive or dead, by a word of the log's
  ByEvict : Part
  -- all that an actor's step does
  ByPull : Part
  ByCrawl : Part
  ByAdvance : Part

-- a part, and the state that it leaves
pub record Stage : Type 0 where
  pub part : Part
  pub after : State

-- this part, and those behind it
abbrev pub then : Part → State → List Stage → List Stage
then p s later = record { part = p; after = s } ∷ later

-- a lookup alone
abbrev pub lookup_stages : State → List ℕ → List Stage
lookup_stages s k = then ByLookup (lookup s k).0 []

-- a lookup, and then what it found goes
abbrev pub clear_stages : Part → State → List ℕ → List Stage
clear_stages p s k = then ByLookup (lookup s k).0 (then p (removed (lookup s k).1 (lookup s k).0) [])

-- nothing is stored, for want of a class or a chunk: a set looks the key up and removes its item, the others do neither
abbrev pub failed_stages : Verb → State → List ℕ → List Stage
failed_stages Sets s k = clear_stages ByFailedSet s k
failed_stages Adds s k = []
failed_stages Replaces s k = []
failed_stages (Cases n) s k = []

-- room, and then the lookup; what is linked behind that takes no other key out
abbrev pub room_stages : Verb → List ℕ → State × Option ChunkRef → List Stage
room_stages v k (s, None) = then ByRoom s (failed_stages v s k)
room_stages v k (s, Some x) = then ByRoom s (lookup_stages s k)

-- an item of class c is stored
unfoldable pub store_in_stages : State → Verb → ℕ → List ℕ → List Stage
store_in_stages s v c k = room_stages v k (room s c)

-- set, add, replace, cas, where the new item's class is known or there is none
abbrev pub store_stages : State → Verb → List ℕ → Option ℕ → List Stage
store_stages s v k None = failed_stages v s k
store_stages s v k (Some c) = store_in_stages s v c k

-- room for the new item, and then the second lookup
abbrev pub rewrite_room_stages : List ℕ → State × Option ChunkRef → List Stage
rewrite_room_stages k (s, None) = then ByRoom s []
rewrite_room_stages k (s, Some x) = then ByRoom s (lookup_stages s k)

-- an item of class c is to take the old one's place
unfoldable pub rewrite_in_stages : State → ℕ → List ℕ → List Stage
rewrite_in_stages s c k = rewrite_room_stages k (room s c)

-- where the new item's class is known or there is none
abbrev pub rewrite_class_stages : State → List ℕ → Option ℕ → List Stage
rewrite_class_stages s k None = []
rewrite_class_stages s k (Some c) = rewrite_in_stages s c k

-- the item that was found gets these data
abbrev pub rewrite_stages : State → PlainItem → Payload → List Stage
rewrite_stages s i d = rewrite_class_stages s i.key (class_for s i.key i.flags d)

-- append and prepend, behind the first lookup
abbrev pub join_found_stages : Side → Payload → State × Option (ChunkRef × PlainItem) → List Stage
join_found_stages side d (s, None) = []
join_found_stages side d (s, Some (x, i)) = rewrite_stages s i (joined side i.value d)

-- incr and decr, behind the first lookup
abbrev pub count_found_stages : Sum → ℕ → State × Option (ChunkRef × PlainItem) → List Stage
count_found_stages side d (s, None) = []
count_found_stages side d (s, Some (x, i)) = cond (is_number i.value) (rewrite_stages s i (Bytes (decimal (summed side (digits_from 0 i.value) d)))) []

-- a client's step
abbrev pub client_stages : State → ClientStep → List Stage
client_stages s (Stores v k flags e d) = store_stages s v k (class_for s k flags d)
client_stages s (Joins side k d) = then ByLookup (lookup s k).0 (join_found_stages side d (lookup s k))
client_stages s (Gets k) = lookup_stages s k
client_stages s (Touches k e) = lookup_stages s k
client_stages s (Deletes k) = clear_stages ByDelete s k
client_stages s (Evicts k) = then ByEvict (removed (item_led_to s (find s k)) s) []
client_stages s (Flushes d) = []
client_stages s (Counts side k d) = then ByLookup (lookup s k).0 (count_found_stages side d (lookup s k))

-- the parts of a step that may take a key out, in their order
abbrev pub stages : State → Step → List Stage
stages s (Client e) = client_stages s e
stages s (Pull c q) = then ByPull (step s (Pull c q)).0 []
stages s Bump = []
stages s (CrawlStart set) = []
stages s (Crawl c q) = then ByCrawl (step s (Crawl c q)).0 []
stages s (Schedule src dst) = []
stages s Advance = then ByAdvance (step s Advance).0 []
stages s (Clock n) = []
stages s (Tune a b c d) = []
stages s (TempTtl n) = []

-- ---- the cause: the first part whose state lacks the key, and whether the key's item was alive

-- why a part takes a key out, whose item was alive or dead
abbrev pub cause_by : Part → Bool → Cause
cause_by ByRoom alive = cond alive Evicted ReclaimedByPull
cause_by ByLookup alive = ReclaimedByHit
cause_by ByDelete alive = Deleted
cause_by ByFailedSet alive = DroppedByFailedSet
cause_by ByEvict alive = Evicted
cause_by ByPull alive = ReclaimedByPull
cause_by ByCrawl alive = ReclaimedByCrawler
cause_by ByAdvance alive = cond alive EvictedByMover ReclaimedByMover

-- what the chunk of a key holds
abbrev pub item_of : State → Option ChunkRef → Option PlainItem
item_of s None = None
item_of s (Some x) = item_at s x

-- an item is there, and not dead
abbrev pub is_live : State → Option PlainItem → Bool
is_live s None = false
is_live s (Some i) = not (is_dead s.globals i)

-- the key's item is alive
abbrev pub alive : State → List ℕ → Bool
alive s k = is_live s (item_of s (find s k))

-- by the first of these parts whose state lacks the key
abbrev pub cause_among : Bool → List ℕ → List Stage → Option Cause
cause_among live k [] = None
cause_among live k (g ∷ gs) = cond (held g.after k) (cause_among live k gs) (Some (cause_by g.part live))

-- why a key that is held at s is gone after the step
abbrev pub cause_of : State → Step → List ℕ → Option Cause
cause_of s e k = cause_among (alive s k) k (stages s e)

-- ---- the event of a key at a step

-- the key under which a command may store: of set, add, replace, cas, append, prepend, incr, decr
abbrev pub key_to_store : Step → Option (List ℕ)
key_to_store (Client (Stores v l flags e d)) = Some l
key_to_store (Client (Joins side l d)) = Some l
key_to_store (Client (Counts side l d)) = Some l
key_to_store e = None

-- the answers of a command that did
abbrev pub is_stored : Outcome → Bool
is_stored outcome.Stored = true
is_stored (outcome.Number n) = true
is_stored o = false

-- the key that a step stored which answered this
abbrev pub stored_key : Step → Outcome → Option (List ℕ)
stored_key e o = cond (is_stored o) (key_to_store e) None

-- there is a key, and it is k
abbrev pub is_key : List ℕ → Option (List ℕ) → Bool
is_key k None = false
is_key k (Some l) = same_key k l

-- the step stores the key
abbrev pub stores : State → Step → List ℕ → Bool
stores s e k = is_key k (stored_key e (step s e).1)

-- of a key that was stored: whether it was held before, and its queue after
abbrev pub stored_event : Bool → Option ClassQueue → Option EventKind
stored_event was None = None
stored_event true (Some p) = Some (kind.Replaced p)
stored_event false (Some p) = Some (kind.Stored p)

-- of a key that was held and still is: its queues before and after
abbrev pub moved_event : Option ClassQueue → Option ClassQueue → Option EventKind
moved_event None q = None
moved_event (Some p) None = None
moved_event (Some p) (Some q) = cond (queue_number p.queue == queue_number q.queue) None (Some (kind.Moved p.queue q.queue))

-- of a key that was not stored, by where it was before and is after: it left, or its queue changed
abbrev pub other_event : Option KeyPlace → Option KeyPlace → Option Cause → Option EventKind
other_event None after cause = None
other_event (Some p) None cause = option_map (λ c. kind.Left c) cause
other_event (Some p) (Some q) cause = moved_event p.lru q.lru

-- stored or not, from where the key was before to where it is after
abbrev pub event_by : Bool → Option KeyPlace → Option KeyPlace → Option Cause → Option EventKind
event_by true before after cause = stored_event (is_some before) (class_queue_of after)
event_by false before after cause = other_event before after cause

-- what the step e, played at s, does to the key: at most one event, told by the states at its two ends
abbrev pub event : State → Step → List ℕ → Option EventKind
event s e k = event_by (stores s e k) (key_place_of s k) (key_place_of (step s e).0 k) (cause_of s e k)
