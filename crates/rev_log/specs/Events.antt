-- What an event tells of keys and connections.
-- Rule of memcached: a storage command and a deletion log a look-up of their key first, where they make one.
use Rattle.std.specs.Prelude.{ℕ, ℤ, Bool, true, false, ◌==◌, List, Option, Some, None}
use Rattle.std.specs.Ordering.{int_eq}
use Rattle.std.specs.Str.{bytes_eq}
use Rattle.rev_watch.specs.declared.event.Event.{Event}
use Rattle.rev_watch.specs.declared.event.Event.TheVariants.{LookUp, Store, Deletion, Eviction, PageMove, CrawlEnd, ConnectionOpened, ConnectionClosed, Unknown}
use Rattle.rev_watch.specs.declared.event.StoreOutcome.{StoreOutcome}
use Rattle.rev_watch.specs.declared.event.StoreOutcome.TheVariants as outcomes

-- the key that an event looks up, stores, deletes or evicts
abbrev pub key_of : {A : Type 0} → Event A → Option (List ℕ)
key_of (LookUp key outcome class connection size) = Some key
key_of (Store key command outcome ttl class connection size) = Some key
key_of (Deletion key connection) = Some key
key_of (Eviction key fetched ttl last_access class size) = Some key
key_of (PageMove source target) = None
key_of (CrawlEnd class queue elapsed examined reclaimed) = None
key_of (ConnectionOpened connection) = None
key_of (ConnectionClosed connection) = None
key_of (Unknown kind) = None

-- it is this key
abbrev pub is_key : List ℕ → Option (List ℕ) → Bool
is_key key None = false
is_key key (Some named) = bytes_eq key named

-- the event names this key
abbrev pub names : {A : Type 0} → List ℕ → Event A → Bool
names key event = is_key key (key_of event)

-- the connection of a store; of data that were too large the log does not tell it
abbrev pub connection_of_store : StoreOutcome → ℤ → Option ℤ
connection_of_store outcomes.Stored connection = Some connection
connection_of_store outcomes.NotStored connection = Some connection
connection_of_store outcomes.Exists connection = Some connection
connection_of_store outcomes.NotFound connection = Some connection
connection_of_store outcomes.TooLarge connection = None
connection_of_store outcomes.NoMemory connection = Some connection
connection_of_store outcomes.Other connection = Some connection

-- the connection that an event is of
abbrev pub connection_of : {A : Type 0} → Event A → Option ℤ
connection_of (LookUp key outcome class connection size) = Some connection
connection_of (Store key command outcome ttl class connection size) = connection_of_store outcome connection
connection_of (Deletion key connection) = connection
connection_of (Eviction key fetched ttl last_access class size) = None
connection_of (PageMove source target) = None
connection_of (CrawlEnd class queue elapsed examined reclaimed) = None
connection_of (ConnectionOpened connection) = Some connection
connection_of (ConnectionClosed connection) = Some connection
connection_of (Unknown kind) = None

-- it is this connection
abbrev pub is_connection : ℤ → Option ℤ → Bool
is_connection connection None = false
is_connection connection (Some other) = int_eq connection other

-- the event is of this connection
abbrev pub is_of : {A : Type 0} → ℤ → Event A → Bool
is_of connection event = is_connection connection (connection_of event)

-- the event is a look-up
abbrev pub is_look_up : {A : Type 0} → Event A → Bool
is_look_up (LookUp key outcome class connection size) = true
is_look_up (Store key command outcome ttl class connection size) = false
is_look_up (Deletion key connection) = false
is_look_up (Eviction key fetched ttl last_access class size) = false
is_look_up (PageMove source target) = false
is_look_up (CrawlEnd class queue elapsed examined reclaimed) = false
is_look_up (ConnectionOpened connection) = false
is_look_up (ConnectionClosed connection) = false
is_look_up (Unknown kind) = false

-- the key of a command that makes a look-up of its own: of a storage command or a deletion
abbrev pub commanded_key : {A : Type 0} → Event A → Option (List ℕ)
commanded_key (LookUp key outcome class connection size) = None
commanded_key (Store key command outcome ttl class connection size) = Some key
commanded_key (Deletion key connection) = Some key
commanded_key (Eviction key fetched ttl last_access class size) = None
commanded_key (PageMove source target) = None
commanded_key (CrawlEnd class queue elapsed examined reclaimed) = None
commanded_key (ConnectionOpened connection) = None
commanded_key (ConnectionClosed connection) = None
commanded_key (Unknown kind) = None

-- the class that an event moves a page from
abbrev pub move_source : {A : Type 0} → Event A → Option ℕ
move_source (LookUp key outcome class connection size) = None
move_source (Store key command outcome ttl class connection size) = None
move_source (Deletion key connection) = None
move_source (Eviction key fetched ttl last_access class size) = None
move_source (PageMove source target) = Some source
move_source (CrawlEnd class queue elapsed examined reclaimed) = None
move_source (ConnectionOpened connection) = None
move_source (ConnectionClosed connection) = None
move_source (Unknown kind) = None

-- it is this class
abbrev pub is_class : ℕ → Option ℕ → Bool
is_class class None = false
is_class class (Some source) = source == class

-- the event moves a page from this class
abbrev pub moves_from : {A : Type 0} → ℕ → Event A → Bool
moves_from class event = is_class class (move_source event)

-- the seconds that an evicted item had left to live, where its lifetime is known
abbrev pub time_left : {A : Type 0} → Event A → Option ℕ
time_left (LookUp key outcome class connection size) = None
time_left (Store key command outcome ttl class connection size) = None
time_left (Deletion key connection) = None
time_left (Eviction key fetched ttl last_access class size) = ttl
time_left (PageMove source target) = None
time_left (CrawlEnd class queue elapsed examined reclaimed) = None
time_left (ConnectionOpened connection) = None
time_left (ConnectionClosed connection) = None
time_left (Unknown kind) = None

-- a command that ended so left the old item as it was
abbrev pub leaves_old : StoreOutcome → Bool
leaves_old outcomes.Stored = false
leaves_old outcomes.NotStored = true
leaves_old outcomes.Exists = true
leaves_old outcomes.NotFound = true
leaves_old outcomes.TooLarge = true
leaves_old outcomes.NoMemory = true
leaves_old outcomes.Other = true

-- the event leaves the item of its key as it was, as far as the log tells
abbrev pub leaves_item : {A : Type 0} → Event A → Bool
leaves_item (LookUp key outcome class connection size) = true
leaves_item (Store key command outcome ttl class connection size) = leaves_old outcome
leaves_item (Deletion key connection) = false
leaves_item (Eviction key fetched ttl last_access class size) = false
leaves_item (PageMove source target) = true
leaves_item (CrawlEnd class queue elapsed examined reclaimed) = true
leaves_item (ConnectionOpened connection) = true
leaves_item (ConnectionClosed connection) = true
leaves_item (Unknown kind) = true
