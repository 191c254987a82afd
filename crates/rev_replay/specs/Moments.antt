-- What a log says of the nodes of a tree that it led.
-- Rule of this project: the event for which a node's step was played says it, and a flush counts where one of the event's
-- own steps flushed an item. A tree begins anew where other steps lie in front of its root than before, and with a life
-- of the server.
use Rattle.std.specs.Prelude.{ℕ, ◌-◌, ◌==◌, false, cond, min, List, [], ◌++◌, take, drop, length, replicate, Option, None, Some}
use Rattle.rev_lead.specs.declared.role.Role.{Role}
use Rattle.rev_watch.specs.declared.event.Event.{Event}
use Rattle.rev_watch.specs.declared.event.Timestamp.{Timestamp}
use Rattle.rev_evidence.specs.Heard.{connection, has_flushed, key_hash, said}
use Rattle.rev_evidence.specs.declared.notes.Moment.{Moment}
use Rattle.rev_evidence.specs.declared.verdict.Said.TheVariants as words

-- what an event of this time says, for which steps of these roles were played
abbrev pub moment_of : {A : Type 0} → Option (Event A) → Timestamp → List Role → Moment
moment_of e time roles = record { time = time; said = said e; flushed = has_flushed roles; connection = connection e; key = key_hash e }

-- what is said of nodes of which nobody told, behind an event of this time
abbrev pub silence : Timestamp → Moment
silence time = record { time = time; said = words.Other; flushed = false; connection = None; key = None }

-- a time, or the one at which nothing happened
abbrev pub or_never : Option Timestamp → Timestamp
or_never None = record { seconds = 0; microseconds = 0 }
or_never (Some time) = time

-- ---- what was noted of a replay

-- the moment of each node, that of node 1 first; how many steps lie in front of the tree's root, and when the last event
-- in front of it was, if there is one; when the last event of all was; and when a life of the server began, where nothing
-- of that was heard
pub record PlainNoting : Type 0 where
  pub moments : List Moment
  pub before : ℕ
  pub since : Option Timestamp
  pub now : Option Timestamp
  pub restart : Option Timestamp

-- nothing was heard
abbrev pub nothing : PlainNoting
nothing = record { moments = []; before = 0; since = None; now = None; restart = None }

-- the tree begins anew
abbrev pub begun : PlainNoting → (before : ℕ) → (since : Option Timestamp) → PlainNoting
begun n before since = record { moments = []; before = before; since = since; now = n.now; restart = n.restart }

-- so many steps lie in front of its root
abbrev pub see_root : PlainNoting → (before : ℕ) → PlainNoting
see_root n before = cond (before == n.before) n (begun n before n.now)

-- the same where a life of the server may have begun, of which nothing was heard
abbrev pub see_life_at : Option Timestamp → PlainNoting → (before : ℕ) → PlainNoting
see_life_at None n before = see_root n before
see_life_at (Some time) n before = begun n before (Some time)

abbrev pub see_life : PlainNoting → (before : ℕ) → PlainNoting
see_life n before = see_life_at n.restart (record n { restart = None }) before

-- of so many nodes, each of which nothing is noted has this moment
abbrev pub noted : PlainNoting → (nodes : ℕ) → Moment → PlainNoting
noted n nodes m = record n { moments = take nodes n.moments ++ replicate (nodes - length n.moments) m }

-- an event of this time was played, and the nodes of the tree have these roles: the new ones have its moment
abbrev pub note_event : {A : Type 0} → PlainNoting → Option (Event A) → Timestamp → List Role → PlainNoting
note_event n e time roles = noted n (length roles) (moment_of e time (drop (min (length n.moments) (length roles)) roles))

-- it was heard of, with so many steps in front of the root
abbrev pub heard : {A : Type 0} → PlainNoting → Option (Event A) → Timestamp → List Role → (before : ℕ) → PlainNoting
heard n e time roles before = note_event (record (see_life n before) { now = Some time }) e time roles

-- the server was started anew
abbrev pub restarted : PlainNoting → Timestamp → PlainNoting
restarted n at = record n { now = Some at; restart = Some at }

-- all was heard, and the tree has so many nodes
abbrev pub finished : PlainNoting → (before nodes : ℕ) → PlainNoting
finished n before nodes = noted (see_root n before) nodes (silence (or_never (see_root n before).now))
