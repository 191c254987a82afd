-- What a table has of a key: which events name it, and its item where its lifetime is known.
-- Rule of memcached: a time to live of 0 never ends, and one of 2^31 or more was over as it came.
use Rattle.std.specs.Prelude.{ℕ, ◌-◌, ◌^◌, Bool, ◌&&◌, nat_lt, nat_le, if◌then◌else◌, List, Option, Some, None}
use Rattle.rev_watch.specs.declared.event.Event.{Event}
use Rattle.rev_watch.specs.declared.event.Event.TheVariants.{LookUp, Store, Deletion, Eviction, PageMove, CrawlEnd, ConnectionOpened, ConnectionClosed, Unknown}
use Rattle.rev_watch.specs.declared.event.Timestamp.{Timestamp}
use Rattle.rev_log.specs.Events.{leaves_old}
use Rattle.rev_log.specs.Seconds.{voted}
use Rattle.rev_log.specs.declared.spans.Span.{Span}
use Rattle.rev_log.specs.declared.spans.Stored.{Stored}

-- ---- items

-- an item of this lifetime, where it ends
abbrev pub with_lifetime : Timestamp → ℕ → Option Stored
with_lifetime time ttl = if nat_lt 0 ttl && nat_lt ttl (2 ^ 31) then Some record { time = time; ttl = ttl } else None

-- the item that an event of this time stored, where its lifetime ends
abbrev pub stored_at : {A : Type 0} → Timestamp → Event A → Option Stored
stored_at time (LookUp key outcome class connection size) = None
stored_at time (Store key command outcome ttl class connection size) = if leaves_old outcome then None else with_lifetime time ttl
stored_at time (Deletion key connection) = None
stored_at time (Eviction key fetched ttl last_access class size) = None
stored_at time (PageMove source target) = None
stored_at time (CrawlEnd class queue elapsed examined reclaimed) = None
stored_at time (ConnectionOpened connection) = None
stored_at time (ConnectionClosed connection) = None
stored_at time (Unknown kind) = None

-- the item behind one more event, which leaves the old one or a new one
abbrev pub item_behind : Bool → Option Stored → Option Stored → Option Stored
item_behind leaves before stored = if leaves then before else stored

-- ---- spans

-- one more event names the key
abbrev pub noted : Option Span → ℕ → Bool → Option Stored → Span
noted None number leaves stored = record { first = number; last = number; stored = stored }
noted (Some before) number leaves stored = record { first = before.first; last = number; stored = item_behind leaves before.stored stored }

-- the first event that names the key is gone, and this one is the first now
abbrev pub with_first : ℕ → Span → Span
with_first number span = record span { first = number }

-- ---- votes

-- the item of a span, where its lifetime is known
abbrev pub item_of : Option Span → Option Stored
item_of None = None
item_of (Some span) = span.stored

-- an item that was evicted at this time with so many seconds left votes
abbrev pub vote_of : List ℕ → Option Stored → Option ℕ → Timestamp → List ℕ
vote_of votes None left evicted = votes
vote_of votes (Some stored) None evicted = votes
vote_of votes (Some stored) (Some left) evicted = if nat_le left stored.ttl then voted votes stored.time evicted (stored.ttl - left) else votes
