-- Why a server lost a key. Rule of this project: the words that say so.
use Rattle.std.specs.Prelude.{ℕ, List, codes}
use Rattle.rev_choices.specs.declared.loss.Loss.{Loss}
use Rattle.rev_choices.specs.declared.loss.Loss.TheVariants.{Evicted, Expired, Flushed, Deleted, EvictedByMover, DroppedByFailedSet, Restarted}

-- the word of a loss
abbrev pub word_of : Loss → List ℕ
word_of Evicted = codes "evicted"
word_of Expired = codes "expired"
word_of Flushed = codes "flushed"
word_of Deleted = codes "deleted"
word_of EvictedByMover = codes "evicted_by_mover"
word_of DroppedByFailedSet = codes "dropped_by_failed_set"
word_of Restarted = codes "restarted"
