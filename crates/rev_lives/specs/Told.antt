-- What is told of an event that was heard.
-- Rule of this project: all that is told of a key is read off the event and the steps that were played for it.
use Rattle.std.specs.Prelude.{ℕ, Bool, true, List, Option, Some, None}
use Rattle.std.specs.Option.{option_copied, option_map}
use Rattle.rev_model.specs.State.{State}
use Rattle.rev_tree.specs.Rows.{at}
use Rattle.rev_watch.specs.declared.event.Event.{Event}
use Rattle.rev_watch.specs.declared.event.Event.TheVariants.{Eviction}
use Rattle.rev_evidence.specs.Heard.{role_of, step_number, has_flushed, said, connection, names, is_hit, gone_by}
use Rattle.rev_life.specs.Alive.{is_dead}
use Rattle.rev_evidence.specs.Blame.{PlainBlamed, blame}
use Rattle.rev_lives.specs.Follow.{Facts}
use Rattle.rev_life.specs.Lives.{PlainCulprit}
use Rattle.rev_evidence.specs.Verdicts.{verdict_of}
use Rattle.rev_model.specs.declared.Cause.{Cause}
use Rattle.rev_evidence.specs.declared.verdict.Verdict.{Verdict}
use Rattle.rev_replay.specs.declared.heard.Heard.{Heard}

-- the state behind the event's steps
abbrev pub state : {A : Type 0} → Heard A → State
state h = at h.session.now.root h.session.now.rows h.session.now.current

-- what the line says of the loss of its key: of an item that is held and dead no eviction says it, since it waits for the
-- store that needed its chunk, and takes the item out there
abbrev pub gone : {A : Type 0} → Option (Event A) → (dead : Bool) → Option Verdict
gone None dead = None
gone (Some (Eviction k f t l c s)) true = None
gone (Some e) dead = gone_by e dead

-- what is told of a key that left at a node, with this cause
abbrev pub verdict_at : {A : Type 0} → Heard A → ℕ → Cause → Option Verdict
verdict_at h n c = verdict_of (role_of h.roles.now n) c (said (option_copied h.event)) (has_flushed h.roles.now)

-- the step that pushed a key out: that of the node, with the event's connection
abbrev pub pushed_by : {A : Type 0} → Heard A → PlainBlamed → PlainCulprit
pushed_by h b = record { key = b.key; connection = connection (option_copied h.event); step = step_number h.before b.node }

-- which step pushed a key out that left at a node, with this cause
abbrev pub culprit_at : {A : Type 0} → Heard A → ℕ → Cause → Option PlainCulprit
culprit_at h n c = option_map (pushed_by h) (blame h.session.now.root h.session.now.rows h.roles.now n c)

-- the facts of an event for a key
abbrev pub facts : {A : Type 0} → Heard A → List ℕ → (last : Bool) → Facts
facts h k last = record {
  time = h.time;
  before = h.before;
  roles = h.roles.now;
  verdict = verdict_at h;
  connection = connection (option_copied h.event);
  names = names (option_copied h.event) k;
  found = is_hit (option_copied h.event) h.own;
  gone = gone (option_copied h.event) (is_dead (state h) k);
  culprit = culprit_at h;
  last = last;
}
