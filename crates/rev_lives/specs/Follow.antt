-- What an event of a log means for the lives of a key: a fold over what each of its steps did to the key, and then what
-- the line itself says of it.
-- Rule of this project: the log leads. A store of the log begins a life, in the place of one that has not ended. What is
-- restored since the log shows it goes on with its life, also where that had ended by what the log does not say. A loss is
-- told by the rules' cause and the step's role, and where the log says that no look-up finds a key, and none of the replay
-- does, its life has ended.
use Rattle.std.specs.Prelude.{ℕ, ℤ, Bool, true, false, cond, ◌&&◌, nat_lt, List, [], ◌∷◌, Option, Some, None, is_some}
use Rattle.rev_model.specs.declared.Cause.{Cause}
use Rattle.rev_model.specs.declared.ClassQueue.{ClassQueue}
use Rattle.rev_model.specs.declared.EventKind.{EventKind}
use Rattle.rev_model.specs.declared.EventKind.TheVariants as kind
use Rattle.rev_explain.specs.declared.events.Event.{Event}
use Rattle.rev_lead.specs.declared.role.Role.{Role}
use Rattle.rev_lead.specs.declared.role.Role.TheVariants as roles
use Rattle.rev_watch.specs.declared.event.Timestamp.{Timestamp}
use Rattle.rev_evidence.specs.Heard.{role_of, step_number}
use Rattle.rev_life.specs.Lives.{PlainCulprit, PlainLeft, PlainKey, ended_by, begun, reopened, hit, shifted}
use Rattle.rev_pushers.specs.Times.{micros}
use Rattle.rev_evidence.specs.Verdicts.{told}
use Rattle.rev_pushers.specs.declared.stored.Stored.{Stored}
use Rattle.rev_evidence.specs.declared.verdict.Verdict.{Verdict}
use Rattle.rev_evidence.specs.declared.verdict.Reason.TheVariants as reasons
use Rattle.rev_evidence.specs.declared.verdict.Evidence.{Evidence}
use Rattle.rev_evidence.specs.declared.verdict.Evidence.TheVariants as evidence

-- what is told of an event, for one key
pub record Facts : Type 0 where
  -- when it happened, and how many steps were played before
  pub time : Timestamp
  pub before : ℕ
  -- the role of each node
  pub roles : List Role
  -- what is told of a key that left at a node, with a cause
  pub verdict : ℕ → Cause → Option Verdict
  -- what the line says: its connection, whether it names the key, whether a client's look-up found its key, and what it
  -- says of the loss of its key
  pub connection : Option ℤ
  pub names : Bool
  pub found : Bool
  pub gone : Option Verdict
  -- which step pushed out what left at a node with a cause
  pub culprit : ℕ → Cause → Option PlainCulprit
  -- only the last life is kept
  pub last : Bool

-- the role and the number of a node's step
abbrev pub role : Facts → ℕ → Role
role f n = role_of f.roles n

abbrev pub number : Facts → ℕ → ℕ
number f n = step_number f.before n

-- the last line before the moment at which the key was gone that names it: the event's own, or the one before
abbrev pub line_of : (names : Bool) → Timestamp → Option Timestamp → Timestamp → Option Timestamp
line_of names time named shown = cond (names && nat_lt (micros time) (micros shown)) (Some time) named

-- where a loss is inferred, it came behind one line and at the latest at another
abbrev pub after_of : (names : Bool) → Timestamp → Option Timestamp → Role → Option Timestamp
after_of names time named (roles.Inferred shown moved) = line_of names time named shown
after_of names time named r = None

abbrev pub at_latest : Role → Option Timestamp
at_latest (roles.Inferred shown moved) = Some shown
at_latest r = None

-- how a life ended at node n, with this cause
abbrev pub left : Facts → Option Timestamp → ℕ → Cause → Verdict → PlainLeft
left f named n c v = record { time = f.time; step = number f n; verdict = v; after = after_of f.names f.time named (role f n); before = at_latest (role f n); culprit = f.culprit n c }

-- the key left at node n, where that is told
abbrev pub leaves : Facts → PlainKey → ℕ → Cause → Option Verdict → PlainKey
leaves f k n c None = k
leaves f k n c (Some v) = ended_by (left f k.named n c v) k

-- new data take the place of the life that has not ended, at a step
abbrev pub replaced_at : Timestamp → ℕ → PlainLeft
replaced_at time step = record { time = time; step = step; verdict = told reasons.Replaced evidence.Logged; after = None; before = None; culprit = None }

-- what a store at node n is, and what it is where the key was restored there
abbrev pub stored : Facts → ℕ → ClassQueue → Stored
stored f n q = record { time = f.time; step = number f n; class = q.class; connection = f.connection; logged = true }

abbrev pub restored : Facts → ℕ → ClassQueue → Stored
restored f n q = record { time = f.time; step = number f n; class = q.class; connection = None; logged = false }

-- the key was stored at node n, over a life that has not ended or not
abbrev pub stores : Facts → PlainKey → ℕ → ClassQueue → Bool → PlainKey
stores f k n q over = begun (stored f n q) over f.last (ended_by (replaced_at f.time (number f n)) k)

-- a life that has not ended goes on, and else one begins of which the log does not show the store
abbrev pub begun_unless : Facts → PlainKey → ℕ → ClassQueue → (held : Bool) → PlainKey
begun_unless f k n q true = k
begun_unless f k n q false = begun (restored f n q) false f.last k

-- the key was restored at node n, since the log shows it: a life that ended by what the log does not say had not ended
abbrev pub restores : Facts → PlainKey → ℕ → ClassQueue → PlainKey
restores f k n q = begun_unless f (reopened k) n q (is_some (reopened k).held)

-- the key entered the index at node n
abbrev pub enters : Facts → PlainKey → ℕ → ClassQueue → Role → PlainKey
enters f k n q roles.Restore = restores f k n q
enters f k n q r = stores f k n q (is_some k.held)

-- what a node did to the key
abbrev pub follow_kind : Facts → PlainKey → ℕ → EventKind → PlainKey
follow_kind f k n (kind.Stored q) = enters f k n q (role f n)
follow_kind f k n (kind.Replaced q) = enters f k n q (role f n)
follow_kind f k n (kind.Moved from to) = shifted (record { time = f.time; step = number f n; from = from; to = to }) k
follow_kind f k n (kind.Left c) = leaves f k n c (f.verdict n c)

-- what the nodes did, one after another
abbrev pub follow_all : Facts → PlainKey → List Event → PlainKey
follow_all f k [] = k
follow_all f k (e ∷ es) = follow_all f (follow_kind f k e.node.0 e.kind) es

-- a look-up found the key
abbrev pub follow_hit : Facts → PlainKey → PlainKey
follow_hit f k = cond f.found (hit f.time k) k

-- whether a miss is all that tells of a loss
abbrev pub is_inferred : Evidence → Bool
is_inferred evidence.Inferred = true
is_inferred e = false

-- how a life ended of which the line says so, behind so many steps
abbrev pub said_left_at : Option Timestamp → Timestamp → ℕ → Verdict → PlainLeft
said_left_at named time step v = record { time = time; step = step; verdict = v; after = cond (is_inferred v.evidence) named None; before = cond (is_inferred v.evidence) (Some time) None; culprit = None }

abbrev pub said_gone : Facts → PlainKey → ℕ → Option Verdict → PlainKey
said_gone f k n None = k
said_gone f k n (Some v) = ended_by (said_left_at k.named f.time (number f n) v) k

-- the line says that no look-up finds the key, and none of the replay does
abbrev pub follow_loss : Facts → (alive : Bool) → ℕ → PlainKey → PlainKey
follow_loss f alive n k = cond alive k (said_gone f k n f.gone)

-- what a line says that names the key, behind n steps
abbrev pub follow_line : Facts → (alive : Bool) → ℕ → PlainKey → PlainKey
follow_line f alive n k = record (follow_loss f alive n (follow_hit f k)) { named = Some f.time }

-- an event whose steps did this to the key: n steps, behind which the key is held alive in the replay or not
abbrev pub follow : Facts → List Event → (alive : Bool) → ℕ → PlainKey → PlainKey
follow f es alive n k = cond f.names (follow_line f alive n (follow_all f k es)) (follow_all f k es)

-- the server was started anew, between two lines
abbrev pub restart_left : (last first : Timestamp) → ℕ → PlainLeft
restart_left last first steps = record { time = first; step = steps; verdict = told reasons.Restarted evidence.Logged; after = Some last; before = Some first; culprit = None }

abbrev pub restarted : (last first : Timestamp) → ℕ → PlainKey → PlainKey
restarted last first steps k = ended_by (restart_left last first steps) k
