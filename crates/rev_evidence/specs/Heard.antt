-- What an event of a log says, and what is told of the steps that were played for it.
-- Rule of this project: steps are numbered over all logs, from 1.
use Rattle.std.specs.Prelude.{ℕ, ℤ, zero, suc, ◌+◌, ◌-◌, ◌^◌, min, Bool, true, false, not, ◌&&◌, List, Option, Some, None, slice_get, unwrap_or}
use Rattle.std.specs.List.{list_any}
use Rattle.std.specs.Option.{option_map}
use Rattle.rev_items.specs.Hash.{hash_of}
use Rattle.rev_model.specs.Track.{same_key}
use Rattle.rev_lead.specs.declared.role.Role.{Role}
use Rattle.rev_lead.specs.declared.role.Role.TheVariants as roles
use Rattle.rev_watch.specs.declared.event.Event.{Event}
use Rattle.rev_watch.specs.declared.event.Event.TheVariants.{LookUp, Store, Deletion, Eviction}
use Rattle.rev_watch.specs.declared.event.LookUpOutcome.{LookUpOutcome}
use Rattle.rev_watch.specs.declared.event.LookUpOutcome.TheVariants as ended
use Rattle.rev_watch.specs.declared.event.StoreOutcome.{StoreOutcome}
use Rattle.rev_watch.specs.declared.event.StoreOutcome.TheVariants as stored
use Rattle.rev_evidence.specs.Verdicts.{told}
use Rattle.rev_evidence.specs.declared.verdict.Verdict.{Verdict}
use Rattle.rev_evidence.specs.declared.verdict.Reason.TheVariants as reasons
use Rattle.rev_evidence.specs.declared.verdict.Evidence.TheVariants as evidence
use Rattle.rev_evidence.specs.declared.verdict.Said.{Said}
use Rattle.rev_evidence.specs.declared.verdict.Said.TheVariants as said_words

-- the key that an event names
abbrev pub key_in : {A : Type 0} → Event A → Option (List ℕ)
key_in (LookUp k o c n s) = Some k
key_in (Store k v o t c n s) = Some k
key_in (Deletion k n) = Some k
key_in (Eviction k f t l c s) = Some k
key_in e = None

-- the connection of a store: one whose data were too large does not tell
abbrev pub connection_if : StoreOutcome → ℤ → Option ℤ
connection_if stored.TooLarge n = None
connection_if o n = Some n

-- the connection of an event
abbrev pub connection_in : {A : Type 0} → Event A → Option ℤ
connection_in (LookUp k o c n s) = Some n
connection_in (Store k v o t c n s) = connection_if o n
connection_in (Deletion k n) = n
connection_in e = None

-- what a look-up that ended so says of the item
abbrev pub said_of : LookUpOutcome → Said
said_of ended.Expired = said_words.Expired
said_of ended.Flushed = said_words.Flushed
said_of o = said_words.Other

-- what an event says of the item that it looks up
abbrev pub said_by : {A : Type 0} → Event A → Said
said_by (LookUp k o c n s) = said_of o
said_by e = said_words.Other

-- what a miss says of a key whose item is dead in the replay, or that is not there: it says nothing of the reason, and a
-- delete is what a log does not show
abbrev pub gone_by_miss : (dead : Bool) → Verdict
gone_by_miss true = told reasons.Expired evidence.Replayed
gone_by_miss false = told reasons.Deleted evidence.Inferred

-- the same of a look-up that ended so
abbrev pub gone_by_look_up : LookUpOutcome → (dead : Bool) → Option Verdict
gone_by_look_up ended.NotFound dead = Some (gone_by_miss dead)
gone_by_look_up ended.Expired dead = Some (told reasons.Expired evidence.Logged)
gone_by_look_up ended.Flushed dead = Some (told reasons.Flushed evidence.Logged)
gone_by_look_up o dead = None

-- what an event says of the loss of the key that it names
abbrev pub gone_by : {A : Type 0} → Event A → (dead : Bool) → Option Verdict
gone_by (LookUp k o c n s) dead = gone_by_look_up o dead
gone_by (Eviction k f t l c s) dead = Some (told reasons.Evicted evidence.Logged)
gone_by (Deletion k n) dead = Some (told reasons.Deleted evidence.Logged)
gone_by e dead = None

-- a look-up that ended so found its key
abbrev pub is_found : LookUpOutcome → Bool
is_found ended.Found = true
is_found o = false

-- the event is a look-up that found its key
abbrev pub finds : {A : Type 0} → Event A → Bool
finds (LookUp k o c n s) = is_found o
finds e = false

-- the number of a node's step, behind so many
abbrev pub step_number : ℕ → ℕ → ℕ
step_number before n = min (before + n) (2 ^ 64 - 1)

-- the role of a node's step
abbrev pub role_of : List Role → ℕ → Role
role_of rs zero = roles.Actor
role_of rs (suc n) = unwrap_or (slice_get rs n) roles.Actor

-- a step of this role flushed an item
abbrev pub is_flush : Role → Bool
is_flush roles.Flush = true
is_flush r = false

-- a step of the event did
abbrev pub has_flushed : List Role → Bool
has_flushed rs = list_any is_flush rs

-- the same of an event that may be missing

abbrev pub said : {A : Type 0} → Option (Event A) → Said
said None = said_words.Other
said (Some e) = said_by e

abbrev pub connection : {A : Type 0} → Option (Event A) → Option ℤ
connection None = None
connection (Some e) = connection_in e

-- there is a key, and it is this one
abbrev pub is_named : Option (List ℕ) → List ℕ → Bool
is_named None k = false
is_named (Some l) k = same_key l k

abbrev pub named : {A : Type 0} → Option (Event A) → Option (List ℕ)
named None = None
named (Some e) = key_in e

abbrev pub names : {A : Type 0} → Option (Event A) → List ℕ → Bool
names e k = is_named (named e) k

-- the hash of the key
abbrev pub key_hash : {A : Type 0} → Option (Event A) → Option ℕ
key_hash e = option_map hash_of (named e)

-- a client's look-up that found its key, and no storage command's
abbrev pub is_hit : {A : Type 0} → Option (Event A) → Bool → Bool
is_hit None own = false
is_hit (Some e) own = finds e && not own
