-- The words by which it is told why a key left, and what tells it.
-- Rule of this project: one word for each.
use Rattle.std.specs.Prelude.{ℕ, List, codes}
use Rattle.rev_evidence.specs.declared.verdict.Reason.{Reason}
use Rattle.rev_evidence.specs.declared.verdict.Reason.TheVariants.{Evicted, Expired, Flushed, Deleted, EvictedByMover, DroppedByFailedSet, Restarted, Replaced, Outside}
use Rattle.rev_evidence.specs.declared.verdict.Evidence.{Evidence}
use Rattle.rev_evidence.specs.declared.verdict.Evidence.TheVariants.{Logged, Replayed, Inferred}

-- why a key left
abbrev pub reason_word : Reason → List ℕ
reason_word Evicted = codes "evicted"
reason_word Expired = codes "expired"
reason_word Flushed = codes "flushed"
reason_word Deleted = codes "deleted"
reason_word EvictedByMover = codes "evicted_by_mover"
reason_word DroppedByFailedSet = codes "dropped_by_failed_set"
reason_word Restarted = codes "restarted"
reason_word Replaced = codes "replaced"
reason_word Outside = codes "outside"

-- what tells it
abbrev pub evidence_word : Evidence → List ℕ
evidence_word Logged = codes "logged"
evidence_word Replayed = codes "replayed"
evidence_word Inferred = codes "inferred"
