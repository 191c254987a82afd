-- Which events of a log are replayed, where a sample of the server's keys is.
-- Rule of this project: those of the sample's keys. Where the eviction of such a key waits, the next storage command of its
-- class is taken, too, whatever its key is, since it is the one that needed the chunk. A page that moves is one of a
-- sample's pages once in so many moves from its class. All else is of no key, and is taken.
use Rattle.std.specs.Prelude.{◌≡◌, ◌<◌, ◌^◌, ℕ, ◌+◌, ◌-◌, ◌*◌, ◌/◌, Bool, true, false, ◌&&◌, ◌||◌, nat_le, nat_lt, if◌then◌else◌, List, length, slice_get, slice_set, replicate, Option, Some, None}
pub use Rattle.rev_evidence.specs.Sampling.{PlainSampling, has}
use Rattle.rev_watch.specs.declared.event.Event.{Event}
use Rattle.rev_watch.specs.declared.event.Event.TheVariants.{LookUp, Store, Deletion, Eviction, PageMove, CrawlEnd, ConnectionOpened, ConnectionClosed, Unknown}
use Rattle.rev_watch.specs.declared.event.StoreOutcome.{StoreOutcome}
use Rattle.rev_watch.specs.declared.event.StoreOutcome.TheVariants.{TooLarge, NoMemory}
use Rattle.rev_replay.specs.declared.sampling.Sieve.{Sieve}

-- ---- what is noted of each class

-- what is noted of a class, none where there is no such class
abbrev pub or_false : Option Bool → Bool
or_false None = false
or_false (Some b) = b

abbrev pub or_zero : Option ℕ → ℕ
or_zero None = 0
or_zero (Some n) = n

-- the notes with another one of a class, where there is the class
abbrev pub noted : {X : Type 0} → List X → ℕ → X → List X
noted notes class x = if nat_lt class (length notes) then slice_set notes class x else notes

-- nothing is noted
abbrev pub nothing_noted : Sieve
nothing_noted = record { waits = replicate 64 false; moves = replicate 64 0 }

-- the class has an eviction that waits
abbrev pub waits_in : Sieve → ℕ → Bool
waits_in w class = or_false (slice_get w.waits class)

-- how many pages moved from the class since one was played
abbrev pub moves_of : Sieve → ℕ → ℕ
moves_of w class = or_zero (slice_get w.moves class)

-- the next page move is the last of so many
abbrev pub is_last : (one_of count : ℕ) → Bool
is_last n count = nat_le (n - 1) count

abbrev pub next_count : (one_of count : ℕ) → ℕ
next_count n count = if is_last n count then 0 else count + 1

-- ---- events

-- the storage command asked for a chunk of its class
abbrev pub asks_for_chunk : StoreOutcome → Bool
asks_for_chunk TooLarge = false
asks_for_chunk NoMemory = false
asks_for_chunk o = true

-- evictions of the class wait for this storage command
abbrev pub ends_waiting : Sieve → StoreOutcome → ℕ → Bool
ends_waiting w o class = asks_for_chunk o && waits_in w class

-- the event is taken
abbrev pub is_taken : {A : Type 0} → PlainSampling → Sieve → Event A → Bool
is_taken s w (LookUp key outcome class connection size) = has s key
is_taken s w (Store key command outcome ttl class connection size) = has s key || ends_waiting w outcome class
is_taken s w (Deletion key connection) = has s key
is_taken s w (Eviction key fetched ttl last_access class size) = has s key
is_taken s w (PageMove source target) = is_last s.one_of (moves_of w source)
is_taken s w (CrawlEnd class queue elapsed examined reclaimed) = true
is_taken s w (ConnectionOpened connection) = true
is_taken s w (ConnectionClosed connection) = true
is_taken s w (Unknown kind) = true

-- what is noted behind a storage command that ended so, behind an eviction, whose key is in the sample or not, and behind
-- a page move
abbrev pub store_noted : Sieve → StoreOutcome → ℕ → Sieve
store_noted w o class = if asks_for_chunk o then record w { waits = noted w.waits class false } else w

abbrev pub eviction_noted : Sieve → Bool → ℕ → Sieve
eviction_noted w is_sampled class = if is_sampled then record w { waits = noted w.waits class true } else w

abbrev pub move_noted : Sieve → (one_of source : ℕ) → Sieve
move_noted w n source = record w { moves = noted w.moves source (next_count n (moves_of w source)) }

-- what is noted behind the event
abbrev pub behind : {A : Type 0} → PlainSampling → Sieve → Event A → Sieve
behind s w (Store key command outcome ttl class connection size) = store_noted w outcome class
behind s w (Eviction key fetched ttl last_access class size) = eviction_noted w (has s key) class
behind s w (PageMove source target) = move_noted w s.one_of source
behind s w e = w

-- the key of a storage command that is in no sample
abbrev pub if_outside : PlainSampling → List ℕ → Option (List ℕ)
if_outside s key = if has s key then None else Some key

abbrev pub outsider : {A : Type 0} → PlainSampling → Event A → Option (List ℕ)
outsider s (Store key command outcome ttl class connection size) = if_outside s key
outsider s e = None

-- ---- where all keys are taken there is no sample

abbrev pub is_asked : {A : Type 0} → Option PlainSampling → Sieve → Event A → Bool
is_asked None w e = true
is_asked (Some s) w e = is_taken s w e

abbrev pub asked_behind : {A : Type 0} → Option PlainSampling → Sieve → Event A → Sieve
asked_behind None w e = w
asked_behind (Some s) w e = behind s w e

abbrev pub outsider_of : {A : Type 0} → Option PlainSampling → Event A → Option (List ℕ)
outsider_of None e = None
outsider_of (Some s) e = outsider s e

-- ---- of how many keys one is taken for a server of so many pages: of 1, 2, 4 and so on up to 2147483648 the first with
-- which a sample has the data of at most 2048 pages

-- these are reached one behind another, as long as there are more pages
pub data IsReached (pages : ℕ) : ℕ → Type 0 where
  one : IsReached pages 1
  double : {n : ℕ} → IsReached pages n → n < 2 ^ 31 → 2048 < pages / n → IsReached pages (n * 2)

abbrev pub IsFitting : ℕ → ℕ → Type 0
IsFitting pages n = IsReached pages n × ((nat_lt n (2 ^ 31) && nat_lt 2048 (pages / n)) ≡ false)
