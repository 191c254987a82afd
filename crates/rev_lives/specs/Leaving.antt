-- The keys that left at an event.
-- Rule of this project: of the keys that left, those that are not told are those that what is restored pushed out.
use Rattle.std.specs.Prelude.{◌≡◌, ◌⊎◌, ℕ, Bool, if◌then◌else◌, List, ◌++◌, Option, Some, None, IfSome}
use Rattle.std.specs.Option.{option_map, option_copied, option_to_list}
use Rattle.std.specs.List.{filter_map}
use Rattle.rev_explain.specs.Departures.{PlainDeparture}
use Rattle.rev_model.specs.State.{find, owner_of}
use Rattle.rev_model.specs.declared.ChunkRef.{ChunkRef}
use Rattle.rev_watch.specs.declared.event.Event.{Event}
use Rattle.rev_life.specs.Class.{IsLeft}
use Rattle.rev_evidence.specs.Heard.{step_number, said, named}
use Rattle.rev_life.specs.Leaving.{PlainLeaving}
use Rattle.rev_lives.specs.Told.{state, verdict_at, culprit_at}
use Rattle.rev_evidence.specs.Verdicts.{told}
use Rattle.rev_replay.specs.declared.heard.Heard.{Heard}
use Rattle.rev_life.specs.declared.leaving.Leaving.{Leaving}
use Rattle.rev_evidence.specs.declared.verdict.Verdict.{Verdict}
use Rattle.rev_evidence.specs.declared.verdict.Reason.TheVariants as reasons
use Rattle.rev_evidence.specs.declared.verdict.Evidence.TheVariants as evidence
use Rattle.rev_evidence.specs.declared.verdict.Said.{Said}
use Rattle.rev_evidence.specs.declared.verdict.Said.TheVariants as said_words

-- the same with another class
abbrev pub with_class : Option ℕ → PlainLeaving → PlainLeaving
with_class c l = record l { class = c }

-- what is told of a departure but its class, with this verdict
abbrev pub told_so : {A : Type 0} → Heard A → PlainDeparture → Verdict → PlainLeaving
told_so h d v = record { time = h.time; step = step_number h.before d.node; key = d.key; class = None; verdict = v; culprit = culprit_at h d.node d.cause }

-- what is told of a departure but its class, if anything
abbrev pub told_of : {A : Type 0} → Heard A → PlainDeparture → Option PlainLeaving
told_of h d = option_map (told_so h d) (verdict_at h d.node d.cause)

-- what is told of departures but their classes
abbrev pub departed : {A : Type 0} → Heard A → List PlainDeparture → List PlainLeaving
departed h ds = filter_map (told_of h) ds

-- what an event says of an item that a storage command's look-up met dead
abbrev pub lapsed_so : Said → Option Verdict
lapsed_so said_words.Expired = Some (told reasons.Expired evidence.Logged)
lapsed_so said_words.Flushed = Some (told reasons.Flushed evidence.Logged)
lapsed_so said_words.Other = None

abbrev pub lapsed_verdict : {A : Type 0} → Option (Event A) → (own : Bool) → Option Verdict
lapsed_verdict e own = if own then lapsed_so (said e) else None

-- what is told so, but its class, of a key that is still held, by its chunk
abbrev pub lapsed_in : {A : Type 0} → Heard A → List ℕ → Verdict → Option ChunkRef → Option PlainLeaving
lapsed_in h k v None = None
lapsed_in h k v (Some x) = Some (record { time = h.time; step = step_number h.before h.session.now.current; key = k; class = None; verdict = v; culprit = None })

abbrev pub lapsed_as : {A : Type 0} → Heard A → List ℕ → Verdict → Option PlainLeaving
lapsed_as h k v = lapsed_in h k v (find (state h) k)

-- of a key that the event names
abbrev pub lapsed_of : {A : Type 0} → Heard A → Verdict → Option (List ℕ) → Option PlainLeaving
lapsed_of h v None = None
lapsed_of h v (Some k) = lapsed_as h k v

abbrev pub lapsed_by : {A : Type 0} → Heard A → Option Verdict → Option PlainLeaving
lapsed_by h None = None
lapsed_by h (Some v) = lapsed_of h v (named (option_copied h.event))

-- what is told of the key of a storage command whose look-up met its item dead: its store takes the item's place, so the
-- key has not left by the rules
abbrev pub lapsed : {A : Type 0} → Heard A → Option PlainLeaving
lapsed h = lapsed_by h (lapsed_verdict (option_copied h.event) h.own)

-- what is told of an event but the classes
abbrev pub leavings : {A : Type 0} → Heard A → List PlainDeparture → List PlainLeaving
leavings h ds = departed h ds ++ option_to_list (lapsed h)

-- the key stands in this class
pub record StandsIn {A : Type 0} (h : Heard A) (k : List ℕ) (c : ℕ) : Type 0 where
  pub chunk : ChunkRef
  pub held : find (state h) k ≡ Some chunk
  pub class : c ≡ owner_of (state h) chunk.page

-- a class that is told is the one that the key left at the node of its step, or in which it still stands
abbrev pub HasClass : {A : Type 0} → Heard A → Leaving A → Type 0
HasClass h l = IfSome l.class (λ c. ((n : ℕ) × (l.step ≡ step_number h.before n) × IsLeft h.session.now n l.key.now c) ⊎ StandsIn h l.key.now c)
