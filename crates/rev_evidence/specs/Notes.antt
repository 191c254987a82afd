-- What a log says of the nodes of a session that it led, and what is told by that of a key that left at a node, or in
-- front of the root.
-- Rule of this project: the role of a node's step decides, and what the log says at the node. What was restored since the
-- log shows it pushes a key out by the rules alone, so there the rules' cause does. Where the log says nothing of a node,
-- nothing is told.
use Rattle.std.specs.Prelude.{ℕ, zero, suc, ◌==◌, nat_eq, nat_lt, cond, Bool, false, not, ◌&&◌, ◌||◌, is_some, List, [], length, Option, Some, None, slice_get, unwrap_or}
use Rattle.rev_items.specs.Hash.{hash_of}
use Rattle.rev_lead.specs.declared.role.Role.{Role}
use Rattle.rev_lead.specs.declared.role.Role.TheVariants as roles
use Rattle.rev_model.specs.declared.Cause.{Cause}
use Rattle.rev_watch.specs.declared.event.Timestamp.{Timestamp}
use Rattle.rev_evidence.specs.Blame.{or_else}
use Rattle.rev_evidence.specs.Verdicts.{by_cause, is_inferred, verdict_of}
use Rattle.rev_evidence.specs.declared.notes.Moment.{Moment}
use Rattle.rev_evidence.specs.Departed.{PlainDeparted, told_of}
use Rattle.rev_evidence.specs.Sampling.{PlainSampling, has}
use Rattle.rev_evidence.specs.declared.departed.Told.{Told}
use Rattle.rev_evidence.specs.declared.verdict.Evidence.{Evidence}
use Rattle.rev_evidence.specs.declared.verdict.Verdict.{Verdict}

-- the role and the moment of each node, those of node 1 first; where the log goes back behind the root, the keys that left
-- in front of that, and when it was; and the sample that is replayed, where not all keys are
pub record PlainNotes : Type 0 where
  pub roles : List Role
  pub moments : List Moment
  pub departed : Option PlainDeparted
  pub since : Option Timestamp
  pub sampling : Option PlainSampling

-- no node has a note, and no key left in front of the root
abbrev pub no_notes : PlainNotes
no_notes = record { roles = []; moments = []; departed = None; since = None; sampling = None }

-- the log says nothing of any node, and does not go back behind the root
abbrev pub is_none : PlainNotes → Bool
is_none notes = (length notes.moments == 0) && not (is_some notes.since)

-- what a list holds for node n
abbrev pub of_node : {X : Type 0} → List X → ℕ → Option X
of_node xs zero = None
of_node xs (suc n) = slice_get xs n

-- what the log says at node n
abbrev pub moment_at : PlainNotes → ℕ → Option Moment
moment_at notes n = of_node notes.moments n

-- why a key left at a step of this role, with this cause, and what tells it
abbrev pub verdict_in : Role → Cause → Moment → Verdict
verdict_in r c m = unwrap_or (verdict_of r c m.said m.flushed) (by_cause r c m.said m.flushed)

-- the one time is in front of the other
abbrev pub is_before : Timestamp → Timestamp → Bool
is_before t u = nat_lt t.seconds u.seconds || (nat_eq t.seconds u.seconds && nat_lt t.microseconds u.microseconds)

-- there is a hash, and it is this one
abbrev pub is_hash : Option ℕ → (hash : ℕ) → Bool
is_hash None h = false
is_hash (Some k) h = nat_eq k h

-- when a line names a key of this hash, if it does so in front of a time
abbrev pub named_in : (hash : ℕ) → Timestamp → Option Moment → Option Timestamp
named_in h t None = None
named_in h t (Some m) = cond (is_hash m.key h && is_before m.time t) (Some m.time) None

-- when a line of the first n nodes last named a key of this hash, in front of a time
abbrev pub last_named : List Moment → (hash : ℕ) → Timestamp → ℕ → Option Timestamp
last_named ms h t zero = None
last_named ms h t (suc n) = or_else (named_in h t (of_node ms (suc n))) (last_named ms h t n)

-- when a key left at a step of this role, at the latest: where a later line shows that it was gone, that line
abbrev pub at_latest : Role → Moment → Timestamp
at_latest (roles.Inferred shown moved) m = shown
at_latest r m = m.time

-- where that is inferred, behind which time a key of this hash left at node n: where a later line shows it, that of the
-- last line in front of that which names the key, and else its own
abbrev pub behind : List Moment → ℕ → (hash : ℕ) → Role → Evidence → Moment → Option Timestamp
behind ms n h (roles.Inferred shown moved) e m = last_named ms h shown n
behind ms n h r e m = cond (is_inferred e) (Some m.time) None

-- what is told where the log says this
abbrev pub told_in : List Moment → ℕ → (hash : ℕ) → Role → Cause → Option Moment → Option Told
told_in ms n h r c None = None
told_in ms n h r c (Some m) = Some (record { verdict = verdict_in r c m; time = at_latest r m; after = behind ms n h r (verdict_in r c m).evidence m })

-- what is told where the step has this role
abbrev pub told_for : List Moment → ℕ → (hash : ℕ) → Option Role → Cause → Option Moment → Option Told
told_for ms n h None c m = None
told_for ms n h (Some r) c m = told_in ms n h r c m

-- by the role and the moment of each node
abbrev pub told_by : List Role → List Moment → ℕ → (hash : ℕ) → Cause → Option Told
told_by rs ms n h c = told_for ms n h (of_node rs n) c (of_node ms n)

-- what is told of a key that left at node n, with this cause
abbrev pub told_at : PlainNotes → ℕ → Cause → List ℕ → Option Told
told_at notes n c k = told_by notes.roles notes.moments n (hash_of k) c

-- what is told of the last leaving of a key, where some left
abbrev pub told_by_those : Option PlainDeparted → List ℕ → Option Told
told_by_those None k = None
told_by_those (Some departed) k = told_of departed k

-- what is told of the last leaving of a key in front of the root
abbrev pub told_before : PlainNotes → List ℕ → Option Told
told_before notes k = told_by_those notes.departed k

-- the key is in no sample
abbrev pub is_outside_of : Option PlainSampling → List ℕ → Bool
is_outside_of None k = false
is_outside_of (Some s) k = not (has s k)

-- the key is not replayed, since it is in no sample
abbrev pub is_outside : PlainNotes → List ℕ → Bool
is_outside notes k = is_outside_of notes.sampling k
