-- What a step is to the key that it names, as an event of a log is.
-- Rule of this project: a storage command is a store, a command that takes a held item out is a deletion, each other
-- command on a key is a look-up, and the last step of a page move is that move. An `~evict` stands for what the rules
-- do, and pushes nothing out.
use Rattle.std.specs.Prelude.{ℕ, Bool, false, nat_le, List, Option, Some, None, length}
use Rattle.rev_items.specs.Plain.{PlainItem}
use Rattle.rev_model.specs.Client as client
use Rattle.rev_model.specs.Actor as actor
use Rattle.rev_model.specs.State.{State, item_at, find}
use Rattle.rev_model.specs.declared.Outcome.{Outcome}
use Rattle.rev_model.specs.declared.Outcome.TheVariants as outcomes
use Rattle.rev_model.specs.declared.ChunkRef.{ChunkRef}
use Rattle.rev_model.specs.declared.Mover.{Mover}
use Rattle.rev_lead.specs.declared.role.Role.{Role}
use Rattle.rev_lead.specs.declared.role.Role.TheVariants as roles
use Rattle.rev_evidence.specs.Blame.{key_of}
use Rattle.rev_watch.specs.declared.event.Event.{Event}
use Rattle.rev_watch.specs.declared.event.Event.TheVariants.{LookUp, Store, Deletion, PageMove}
use Rattle.rev_watch.specs.declared.event.LookUpOutcome.{LookUpOutcome}
use Rattle.rev_watch.specs.declared.event.LookUpOutcome.TheVariants as ended
use Rattle.rev_watch.specs.declared.event.StoreCommand.{StoreCommand}
use Rattle.rev_watch.specs.declared.event.StoreCommand.TheVariants as commands
use Rattle.rev_watch.specs.declared.event.StoreOutcome.{StoreOutcome}
use Rattle.rev_watch.specs.declared.event.StoreOutcome.TheVariants as stored

-- what an event says of a key, without its numbers
pub data PlainEvent : Type 0 where
  LooksUp : List ℕ → LookUpOutcome → PlainEvent
  Stores : List ℕ → StoreCommand → StoreOutcome → PlainEvent
  TakesOut : List ℕ → PlainEvent
  MovesPage : ℕ → ℕ → PlainEvent
  Others : PlainEvent

abbrev pub plain_event : {A : Type 0} → Event A → PlainEvent
plain_event (LookUp k o c n s) = LooksUp k o
plain_event (Store k v o t c n s) = Stores k v o
plain_event (Deletion k n) = TakesOut k
plain_event (PageMove s t) = MovesPage s t
plain_event e = Others

-- the bytes of an item's data, if there is one
abbrev pub size_of : Option PlainItem → ℕ
size_of None = 0
size_of (Some i) = length i.value

-- which command stores so
abbrev pub command_of : client.Verb → StoreCommand
command_of client.Sets = commands.Set
command_of client.Adds = commands.Add
command_of client.Replaces = commands.Replace
command_of (client.Cases n) = commands.Cas

abbrev pub joined_by : client.Side → StoreCommand
joined_by client.Appends = commands.Append
joined_by client.Prepends = commands.Prepend

-- how a storage command ended
abbrev pub stored_as : Outcome → StoreOutcome
stored_as outcomes.Stored = stored.Stored
stored_as outcomes.NotStored = stored.NotStored
stored_as outcomes.Exists = stored.Exists
stored_as outcomes.NotFound = stored.NotFound
stored_as outcomes.TooLarge = stored.TooLarge
stored_as outcomes.NoChunk = stored.NoMemory
stored_as o = stored.Other

-- how a look-up ended
abbrev pub found_as : Outcome → LookUpOutcome
found_as outcomes.Miss = ended.NotFound
found_as outcomes.NotFound = ended.NotFound
found_as o = ended.Found

-- a command that takes the key's item out
abbrev pub takes_out : List ℕ → Outcome → PlainEvent
takes_out k outcomes.Deleted = TakesOut k
takes_out k outcomes.Evicted = TakesOut k
takes_out k o = LooksUp k (found_as o)

-- what a client's step is
abbrev pub client_event : client.ClientStep → Outcome → Option PlainEvent
client_event (client.Stores v k f t p) o = Some (Stores k (command_of v) (stored_as o))
client_event (client.Joins v k p) o = Some (Stores k (joined_by v) (stored_as o))
client_event (client.Gets k) o = Some (LooksUp k (found_as o))
client_event (client.Touches k t) o = Some (LooksUp k (found_as o))
client_event (client.Counts v k n) o = Some (LooksUp k (found_as o))
client_event (client.Deletes k) o = Some (takes_out k o)
client_event (client.Evicts k) o = Some (takes_out k o)
client_event (client.Flushes d) o = None

-- the page that went, where one was to go
abbrev pub moved_page : Option Mover → Option PlainEvent
moved_page None = None
moved_page (Some m) = Some (MovesPage m.src m.dst)

-- what a step of no client is: the last one of a page move
abbrev pub actor_event : Option Mover → Outcome → Option PlainEvent
actor_event m outcomes.Finished = moved_page m
actor_event m o = None

-- what a step is, in front of which this page move was under way
abbrev pub event_of : Option Mover → actor.Step → Outcome → Option PlainEvent
event_of m (actor.Client c) o = client_event c o
event_of m (actor.Tune hs ws hf wf) o = None
event_of m e o = actor_event m o

-- why a client's step was played
abbrev pub role_in : client.ClientStep → Role
role_in (client.Evicts k) = roles.Actor
role_in c = roles.Event

-- why a step was played
abbrev pub role_of : actor.Step → Role
role_of (actor.Client c) = role_in c
role_of e = roles.Actor

-- an item that a flush made dead
abbrev pub is_flushed_item : State → Option PlainItem → Bool
is_flushed_item s None = false
is_flushed_item s (Some i) = nat_le i.cas s.globals.flush_limit

-- the item that a chunk holds, if there is one, is such
abbrev pub is_flushed_at : State → Option ChunkRef → Bool
is_flushed_at s None = false
is_flushed_at s (Some x) = is_flushed_item s (item_at s x)

-- the item of a key, if one is named, is such
abbrev pub is_flushed_of : State → Option (List ℕ) → Bool
is_flushed_of s None = false
is_flushed_of s (Some k) = is_flushed_at s (find s k)

-- the step meets such an item
abbrev pub meets_flushed : State → actor.Step → Bool
meets_flushed s e = is_flushed_of s (key_of e)
