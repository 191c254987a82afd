-- Which step pushed a key out.
-- Rule of this project: in a log an eviction stands in front of the store that wanted the chunk. So where a delete stands
-- for the eviction, it is the event's own store behind it, and where the rules evicted the key, the step itself.
use Rattle.std.specs.Prelude.{ℕ, zero, suc, ◌+◌, ◌-◌, Bool, true, false, cond, List, length, Option, Some, None}
use Rattle.rev_model.specs.State.{State}
use Rattle.rev_model.specs.Client.{ClientStep, Stores, Joins, Gets, Touches, Deletes, Evicts, Flushes, Counts}
use Rattle.rev_model.specs.Actor.{Step, Client}
use Rattle.rev_model.specs.Events.{stored_key}
use Rattle.rev_model.specs.declared.Cause.{Cause}
use Rattle.rev_model.specs.declared.Cause.TheVariants as causes
use Rattle.rev_tree.specs.Rows.{Row, row_of, at}
use Rattle.rev_tree.specs.Steps.{outcome_of}
use Rattle.rev_lead.specs.declared.role.Role.{Role}
use Rattle.rev_lead.specs.declared.role.Role.TheVariants as roles
use Rattle.rev_evidence.specs.Heard.{role_of}
use Rattle.rev_evidence.specs.declared.blame.Blamed.{Blamed}

-- the key that a step of a client names
abbrev pub client_key : ClientStep → Option (List ℕ)
client_key (Stores verb k flags exptime payload) = Some k
client_key (Joins side k payload) = Some k
client_key (Gets k) = Some k
client_key (Touches k exptime) = Some k
client_key (Deletes k) = Some k
client_key (Evicts k) = Some k
client_key (Flushes delay) = None
client_key (Counts sum k n) = Some k

abbrev pub key_of : Step → Option (List ℕ)
key_of (Client e) = client_key e
key_of e = None

-- a step of this role is the event's own
abbrev pub is_own : Role → Bool
is_own roles.Event = true
is_own roles.Evicting = true
is_own r = false

-- the key that the step of a row names
abbrev pub row_key : Option Row → Option (List ℕ)
row_key None = None
row_key (Some r) = key_of r.step

-- the key that the step of node n names
abbrev pub named_at : List (Option Row) → ℕ → Option (List ℕ)
named_at rows n = row_key (row_of rows n)

-- the key that the step of a row stored
abbrev pub row_stored : State → List (Option Row) → Option Row → Option (List ℕ)
row_stored root rows None = None
row_stored root rows (Some r) = stored_key r.step (outcome_of (at root rows r.parent) r.step)

-- the key that the step of node n stored, where it is the event's own
abbrev pub stored_at : State → List (Option Row) → List Role → ℕ → Option (List ℕ)
stored_at root rows rs n = cond (is_own (role_of rs n)) (row_stored root rows (row_of rows n)) None

-- a step that is to blame: its node, and its key
pub record PlainBlamed : Type 0 where
  pub node : ℕ
  pub key : List ℕ

abbrev pub plain_blamed : {A : Type 0} → Blamed A → PlainBlamed
plain_blamed b = record { node = b.node.0; key = b.key.now }

abbrev pub blamed_at : ℕ → Option (List ℕ) → Option PlainBlamed
blamed_at n None = None
blamed_at n (Some k) = Some (record { node = n; key = k })

-- this, or else that
abbrev pub or_else : {X : Type 0} → Option X → Option X → Option X
or_else None o = o
or_else (Some x) o = Some x

-- the event's own store at the first of so many nodes behind n
abbrev pub first_store : State → List (Option Row) → List Role → ℕ → ℕ → Option PlainBlamed
first_store root rows rs zero n = None
first_store root rows rs (suc count) n = or_else (blamed_at (n + 1) (stored_at root rows rs (n + 1))) (first_store root rows rs count (n + 1))

-- at all nodes behind n
abbrev pub store_behind : State → List (Option Row) → List Role → ℕ → Option PlainBlamed
store_behind root rows rs n = first_store root rows rs (length rows - n) n

-- the node itself, where the rules evicted the key at it
abbrev pub evictor : List (Option Row) → Cause → ℕ → Option PlainBlamed
evictor rows causes.Evicted n = blamed_at n (named_at rows n)
evictor rows c n = None

-- by the role of the node's step
abbrev pub blame_by : State → List (Option Row) → List Role → Cause → ℕ → Role → Option PlainBlamed
blame_by root rows rs c n roles.Eviction = store_behind root rows rs n
blame_by root rows rs c n roles.Event = evictor rows c n
blame_by root rows rs c n roles.Evicting = evictor rows c n
blame_by root rows rs c n r = None

-- which step pushed a key out that left at node n, with this cause
abbrev pub blame : State → List (Option Row) → List Role → ℕ → Cause → Option PlainBlamed
blame root rows rs n c = blame_by root rows rs c n (role_of rs n)
