-- The words by which a tree's lines name steps and outcomes.
-- Rule of this project: one word for each step and each outcome.
use Rattle.std.specs.Prelude.{ℕ, List, codes}
use Rattle.rev_model.specs.Client.{ClientStep, Verb, Side, Sum, Stores, Joins, Gets, Touches, Deletes, Evicts, Flushes, Counts, Sets, Adds, Replaces, Cases, Appends, Prepends, Increases, Decreases}
use Rattle.rev_model.specs.Actor.{Step, Client, Pull, Bump, CrawlStart, Crawl, Schedule, Advance, Clock, Tune, TempTtl}
use Rattle.rev_model.specs.declared.Outcome.{Outcome}
use Rattle.rev_model.specs.declared.Outcome.TheVariants as outcomes

-- of a verb that stores
abbrev pub verb_word : Verb → List ℕ
verb_word Sets = codes "set"
verb_word Adds = codes "add"
verb_word Replaces = codes "replace"
verb_word (Cases n) = codes "cas"

-- of append and prepend
abbrev pub side_word : Side → List ℕ
side_word Appends = codes "append"
side_word Prepends = codes "prepend"

-- of incr and decr
abbrev pub sum_word : Sum → List ℕ
sum_word Increases = codes "incr"
sum_word Decreases = codes "decr"

-- of a client's step
abbrev pub client_word : ClientStep → List ℕ
client_word (Stores verb k flags exptime payload) = verb_word verb
client_word (Joins side k payload) = side_word side
client_word (Gets k) = codes "get"
client_word (Touches k exptime) = codes "touch"
client_word (Deletes k) = codes "delete"
client_word (Evicts k) = codes "evict"
client_word (Flushes delay) = codes "flush_all"
client_word (Counts sum k n) = sum_word sum

-- of any step
abbrev pub step_word : Step → List ℕ
step_word (Client e) = client_word e
step_word (Pull c q) = codes "pull"
step_word Bump = codes "bump"
step_word (CrawlStart set) = codes "crawl_start"
step_word (Crawl c q) = codes "crawl"
step_word (Schedule source target) = codes "reassign"
step_word Advance = codes "move"
step_word (Clock n) = codes "clock"
step_word (Tune hot warm hot_factor warm_factor) = codes "tune"
step_word (TempTtl n) = codes "temp_ttl"

-- of an outcome
abbrev pub outcome_word : Outcome → List ℕ
outcome_word outcomes.Stored = codes "STORED"
outcome_word outcomes.NotStored = codes "NOT_STORED"
outcome_word outcomes.Exists = codes "EXISTS"
outcome_word outcomes.NotFound = codes "NOT_FOUND"
outcome_word outcomes.Deleted = codes "DELETED"
outcome_word outcomes.Touched = codes "TOUCHED"
outcome_word outcomes.Okay = codes "OK"
outcome_word (outcomes.Hit len cas) = codes "HIT"
outcome_word outcomes.Miss = codes "MISS"
outcome_word outcomes.TooLarge = codes "TOO_LARGE"
outcome_word outcomes.NoChunk = codes "NO_CHUNK"
outcome_word outcomes.Busy = codes "BUSY"
outcome_word outcomes.BadClass = codes "BADCLASS"
outcome_word outcomes.NoSpare = codes "NOSPARE"
outcome_word outcomes.Same = codes "SAME"
outcome_word outcomes.Moved = codes "MOVED"
outcome_word outcomes.Reclaimed = codes "RECLAIMED"
outcome_word outcomes.Idle = codes "IDLE"
outcome_word outcomes.Passed = codes "PASSED"
outcome_word outcomes.Ended = codes "ENDED"
outcome_word outcomes.Withdrawn = codes "WITHDRAWN"
outcome_word outcomes.Rescued = codes "RESCUED"
outcome_word outcomes.Evicted = codes "EVICTED"
outcome_word outcomes.Finished = codes "FINISHED"
outcome_word (outcomes.Number n) = codes "NUMBER"
outcome_word outcomes.NotNumber = codes "NOT_NUMBER"
