-- What is answered to the question why a key is gone, and to that for its story.
-- Rule of this project: the texts of `:why` and `:story`. Where a log tells of a node, it says why a key left there, and
-- else the rules do.
use Rattle.std.specs.Prelude.{ℕ, Bool, true, false, cond, List, [], ◌∷◌, ◌++◌, Option, None, Some, codes, decimal}
use Rattle.rev_evidence.specs.Notes.{PlainNotes, told_at, told_before, is_outside}
use Rattle.rev_evidence.specs.Verdicts.{is_inferred}
use Rattle.rev_evidence.specs.Words.{reason_word, evidence_word}
use Rattle.rev_evidence.specs.declared.departed.Told.{Told}
use Rattle.rev_model.specs.declared.Cause.{Cause}
use Rattle.rev_model.specs.declared.Cause.TheVariants.{Evicted, ReclaimedByPull, ReclaimedByCrawler, ReclaimedByHit, ReclaimedByMover, EvictedByMover, Deleted, DroppedByFailedSet}
use Rattle.rev_model.specs.declared.ClassQueue.{ClassQueue}
use Rattle.rev_model.specs.declared.EventKind.{EventKind}
use Rattle.rev_model.specs.declared.EventKind.TheVariants as kind
use Rattle.rev_watch.specs.declared.event.Timestamp.{Timestamp}
use Rattle.rev_explain.specs.declared.events.Event.{Event}
use Rattle.rev_explain.specs.declared.events.Why.{Why}
use Rattle.rev_explain.specs.declared.events.Why.TheVariants as why
use Rattle.rev_texts.specs.Texts.{output, queue_text}

-- the word of a cause
abbrev pub cause_word : Cause → List ℕ
cause_word Evicted = codes "evicted"
cause_word ReclaimedByPull = codes "reclaimed_by_pull"
cause_word ReclaimedByCrawler = codes "reclaimed_by_crawler"
cause_word ReclaimedByHit = codes "reclaimed_by_hit"
cause_word ReclaimedByMover = codes "reclaimed_by_mover"
cause_word EvictedByMover = codes "evicted_by_mover"
cause_word Deleted = codes "deleted"
cause_word DroppedByFailedSet = codes "dropped_by_failed_set"

-- a second by the Unix clock, or `-` where none is known
abbrev pub second_word : Option Timestamp → List ℕ
second_word None = codes "-"
second_word (Some t) = decimal t.seconds

-- behind which second a key left, where that is inferred
abbrev pub behind_words : Bool → Option Timestamp → List ℕ
behind_words false t = []
behind_words true t = codes " " ++ second_word t

-- what a log tells of a key that left: why, what tells it, and the second, by the Unix clock; where that is inferred,
-- behind which second it left, and at which it was gone at the latest
abbrev pub told_words : Told → List ℕ
told_words t = reason_word t.verdict.reason ++ codes " " ++ evidence_word t.verdict.evidence ++ behind_words (is_inferred t.verdict.evidence) t.after ++ codes " " ++ decimal t.time.seconds

-- the same, or the word of the cause where it tells nothing
abbrev pub told_or_cause : Option Told → Cause → List ℕ
told_or_cause (Some t) c = told_words t
told_or_cause None c = cause_word c

-- why a key left at node n, where the rules give this cause
abbrev pub left_words : PlainNotes → ℕ → Cause → List ℕ → List ℕ
left_words log n c k = told_or_cause (told_at log n c k) c

-- that a key left in front of the root, and what a log tells of it
abbrev pub departed_text : Told → List ℕ
departed_text t = output (codes "LEFT 0 " ++ told_words t)

-- that nothing is known of a key, and since when that is so, by the Unix clock, where the log goes back behind the root
abbrev pub absent_text : Option Timestamp → List ℕ
absent_text None = output (codes "NEVER")
absent_text (Some t) = output (codes "NEVER since " ++ decimal t.seconds)

-- what is told of the last leaving of a key in front of the root, where that is known
abbrev pub before_text : Option Told → Option Timestamp → List ℕ
before_text None since = absent_text since
before_text (Some t) since = departed_text t

-- of a key that never was there since the root: that it is in no sample, or what is told of its last leaving before
abbrev pub never_text : (outside : Bool) → Option Told → Option Timestamp → List ℕ
never_text outside told since = cond outside (output (codes "OUTSIDE")) (before_text told since)

-- the answer to `:why` for a key
abbrev pub why_text : PlainNotes → List ℕ → Why → List ℕ
why_text log k why.Present = output (codes "PRESENT")
why_text log k why.Never = never_text (is_outside log k) (told_before log k) log.since
why_text log k (why.Left n c) = output (codes "LEFT " ++ decimal n.0 ++ codes " " ++ left_words log n.0 c k)

-- a class and a queue
abbrev pub place_words : ClassQueue → List ℕ
place_words p = codes " " ++ decimal p.class ++ codes " " ++ queue_text p.queue

-- what the step of node n did to the key
abbrev pub event_words : PlainNotes → List ℕ → ℕ → EventKind → List ℕ
event_words log k n (kind.Stored p) = codes " stored" ++ place_words p
event_words log k n (kind.Replaced p) = codes " replaced" ++ place_words p
event_words log k n (kind.Moved from to) = codes " moved " ++ queue_text from ++ codes " " ++ queue_text to
event_words log k n (kind.Left c) = codes " left " ++ left_words log n c k

-- the line of an event of the key
abbrev pub event_text : PlainNotes → List ℕ → Event → List ℕ
event_text log k e = output (decimal e.node.0 ++ event_words log k e.node.0 e.kind)

-- a line for each event of the key, then END
abbrev pub events_text : PlainNotes → List ℕ → List Event → List ℕ
events_text log k [] = output (codes "END")
events_text log k (e ∷ es) = event_text log k e ++ events_text log k es
