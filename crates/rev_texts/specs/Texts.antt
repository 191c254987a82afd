-- The texts of answers.
-- Rule of memcached: those of its protocol (protocol.txt).
-- Rule of this project: the texts of steps of the actors, and of all that a store shows.
use Rattle.std.specs.Prelude.{ℕ, Bool, cond, List, [], ◌∷◌, ◌++◌, length, Option, None, Some, codes, decimal, suc}
use Rattle.std.specs.Option.{option_and_then}
use Rattle.rev_items.specs.Plain.{PlainItem}
use Rattle.rev_items.specs.declared.Bits.{Bits}
use Rattle.rev_model.specs.State.{State, item_at, find, owner_of, counter_of}
use Rattle.rev_model.specs.Words.{queue_with}
use Rattle.rev_model.specs.Move.{is_class}
use Rattle.rev_model.specs.declared.ChunkRef.{ChunkRef}
use Rattle.rev_model.specs.declared.Entry.{Entry}
use Rattle.rev_model.specs.declared.Entry.TheVariants.{Chunk, Mark}
use Rattle.rev_model.specs.declared.Queue.{Queue}
use Rattle.rev_model.specs.declared.Queue.TheVariants.{Hot, Warm, Cold, Temp}
use Rattle.rev_model.specs.declared.Counter.TheVariants as counters
use Rattle.rev_model.specs.declared.Mover.{Mover}
use Rattle.rev_model.specs.declared.Globals.{Globals}
use Rattle.rev_model.specs.declared.Outcome.{Outcome}
use Rattle.rev_model.specs.declared.Outcome.TheVariants as outcomes
use Rattle.rev_script.specs.declared.command.BadAnswer.{BadAnswer}
use Rattle.rev_script.specs.declared.command.BadAnswer.TheVariants as bad

-- each line of output ends with CR LF
abbrev pub output : List ℕ → List ℕ
output words = words ++ codes "\r\n"

-- a malformed line
abbrev pub bad_text : BadAnswer → List ℕ
bad_text bad.Error = codes "ERROR"
bad_text bad.BadFormat = codes "CLIENT_ERROR bad command line format"
bad_text bad.DeleteUsage = codes "CLIENT_ERROR bad command line format.  Usage: delete <key> [noreply]"
bad_text bad.BadExptime = codes "CLIENT_ERROR invalid exptime argument"
bad_text bad.BadDelta = codes "CLIENT_ERROR invalid numeric delta argument"
bad_text bad.SharesOver80 = codes "ERROR hot and warm pcts must not exceed 80"
bad_text bad.LineTooLong = codes "CLIENT_ERROR line too long"
bad_text bad.BadChunk = codes "CLIENT_ERROR bad data chunk"
bad_text bad.BadCommand = codes "BAD COMMAND"

-- the line of an outcome; a hit's lines are its value's, and a miss has none
abbrev pub outcome_text : Outcome → List ℕ
outcome_text outcomes.Stored = output (codes "STORED")
outcome_text outcomes.NotStored = output (codes "NOT_STORED")
outcome_text outcomes.Exists = output (codes "EXISTS")
outcome_text outcomes.NotFound = output (codes "NOT_FOUND")
outcome_text outcomes.Deleted = output (codes "DELETED")
outcome_text outcomes.Touched = output (codes "TOUCHED")
outcome_text outcomes.Okay = output (codes "OK")
outcome_text (outcomes.Hit len cas) = []
outcome_text outcomes.Miss = []
outcome_text outcomes.TooLarge = output (codes "SERVER_ERROR object too large for cache")
outcome_text outcomes.NoChunk = output (codes "SERVER_ERROR out of memory storing object")
outcome_text outcomes.Busy = output (codes "BUSY")
outcome_text outcomes.BadClass = output (codes "BADCLASS")
outcome_text outcomes.NoSpare = output (codes "NOSPARE")
outcome_text outcomes.Same = output (codes "SAME")
outcome_text outcomes.Moved = output (codes "MOVED")
outcome_text outcomes.Reclaimed = output (codes "RECLAIMED")
outcome_text outcomes.Idle = output (codes "IDLE")
outcome_text outcomes.Passed = output (codes "PASSED")
outcome_text outcomes.Ended = output (codes "ENDED")
outcome_text outcomes.Withdrawn = output (codes "WITHDRAWN")
outcome_text outcomes.Rescued = output (codes "RESCUED")
outcome_text outcomes.Evicted = output (codes "EVICTED")
outcome_text outcomes.Finished = output (codes "FINISHED")
outcome_text (outcomes.Number n) = output (decimal n)
outcome_text outcomes.NotNumber = output (codes "CLIENT_ERROR cannot increment or decrement non-numeric value")

-- the digits that an outcome's line begins with
abbrev pub digits_of : Outcome → List ℕ
digits_of (outcomes.Number n) = decimal n
digits_of o = []

-- ---- values

-- the cas number behind a value, for `gets`
abbrev pub cas_text : Bool → ℕ → List ℕ
cas_text with_cas cas = cond with_cas (codes " " ++ decimal cas) []

-- a value: its key, flags and size, for `gets` its cas number, and its data on a line of their own
abbrev pub value_text : Bool → PlainItem → List ℕ
value_text with_cas i =
    output (codes "VALUE " ++ i.key ++ codes " " ++ decimal i.flags ++ codes " " ++ decimal (length i.value) ++ cas_text with_cas i.cas)
    ++ output i.value

-- the item of a key, dead or not
abbrev pub item_of : State → List ℕ → Option PlainItem
item_of s k = option_and_then (item_at s) (find s k)

-- the value of an item that was found
abbrev pub found_value : Bool → Option PlainItem → List ℕ
found_value with_cas None = []
found_value with_cas (Some i) = value_text with_cas i

-- ---- what a store shows

-- the word of a queue
abbrev pub queue_text : Queue → List ℕ
queue_text Hot = codes "hot"
queue_text Warm = codes "warm"
queue_text Cold = codes "cold"
queue_text Temp = codes "temp"

-- F for FETCHED, A for ACTIVE, - for neither
abbrev pub bits_text : Bits → List ℕ
bits_text b = cond b.fetched (cond b.active (codes "FA") (codes "F")) (cond b.active (codes "A") (codes "-"))

-- a chunk: its page and its slot
abbrev pub chunk_text : ChunkRef → List ℕ
chunk_text x = decimal x.page ++ codes ":" ++ decimal x.slot

-- flags, moment, time, cas number, bits and size of an item
abbrev pub figures_text : PlainItem → List ℕ
figures_text i =
    codes " " ++ decimal i.flags ++ codes " " ++ decimal i.moment ++ codes " " ++ decimal i.time ++ codes " " ++ decimal i.cas
    ++ codes " " ++ bits_text i.bits ++ codes " " ++ decimal (length i.value)

-- the class and the queue of a chunk
abbrev pub seat_text : State → ChunkRef → List ℕ
seat_text s x = codes " " ++ decimal (owner_of s x.page) ++ codes " " ++ queue_text (queue_with s (owner_of s x.page) x)

-- an item in its chunk: its key, its class and queue, and its figures
abbrev pub item_text : State → ChunkRef → Option PlainItem → List ℕ
item_text s x None = output (codes "NOITEM")
item_text s x (Some i) =
    output (codes "ITEM " ++ i.key ++ seat_text s x ++ figures_text i)

-- the item of a key's chunk, dead or not
abbrev pub found_text : State → Option ChunkRef → List ℕ
found_text s None = output (codes "NOITEM")
found_text s (Some x) = item_text s x (item_at s x)

-- the answer to `:chunk`
abbrev pub place_text : Option ChunkRef → List ℕ
place_text None = output (codes "NOITEM")
place_text (Some x) = output (codes "CHUNK " ++ chunk_text x)

-- an item's key
abbrev pub key_text : Option PlainItem → List ℕ
key_text None = []
key_text (Some i) = i.key

-- an entry of a queue: ` =` and its key, or ` *` for the crawler's mark
abbrev pub entry_text : State → Entry → List ℕ
entry_text s (Chunk x) = codes " =" ++ key_text (item_at s x)
entry_text s Mark = codes " *"

-- the entries, head first
abbrev pub entries_text : State → List Entry → List ℕ
entries_text s [] = []
entries_text s (e ∷ es) = entry_text s e ++ entries_text s es

-- a free chunk
abbrev pub free_text : ChunkRef → List ℕ
free_text x = codes " " ++ chunk_text x

-- free chunks, front first
abbrev pub chunks_text : List ChunkRef → List ℕ
chunks_text [] = []
chunks_text (x ∷ xs) = free_text x ++ chunks_text xs

-- a page by its number, with its class, a line each
abbrev pub page_text : ℕ → ℕ → List ℕ
page_text p c = output (codes "PAGE " ++ decimal p ++ codes " " ++ decimal c)

-- a line for each page
abbrev pub pages_text : ℕ → List ℕ → List ℕ
pages_text p [] = []
pages_text p (c ∷ cs) = page_text p c ++ pages_text (suc p) cs

-- a counter with its name
abbrev pub counter_text : List ℕ → ℕ → List ℕ
counter_text name n = codes " " ++ name ++ codes " " ++ decimal n

-- the counters of what left, and of memory that was wanting
abbrev pub removals_text : State → ℕ → List ℕ
removals_text s c =
    counter_text (codes "evicted") (counter_of s c counters.Evicted)
    ++ counter_text (codes "reclaimed") (counter_of s c counters.Reclaimed)
    ++ counter_text (codes "crawler_reclaimed") (counter_of s c counters.CrawlerReclaimed)
    ++ counter_text (codes "outofmemory") (counter_of s c counters.OutOfMemory)

-- the counters of items that were moved
abbrev pub moves_text : State → ℕ → List ℕ
moves_text s c =
    counter_text (codes "moves_to_cold") (counter_of s c counters.MovesToCold)
    ++ counter_text (codes "moves_to_warm") (counter_of s c counters.MovesToWarm)
    ++ counter_text (codes "moves_within_lru") (counter_of s c counters.MovesWithinLru)

-- a class's seven counters
abbrev pub counters_text : State → ℕ → List ℕ
counters_text s c = output (codes "COUNTERS" ++ removals_text s c ++ moves_text s c)

-- a moment, or `-` where no flush is pending
abbrev pub flush_text : Option ℕ → List ℕ
flush_text None = codes "-"
flush_text (Some moment) = decimal moment

-- a page move's source, target, page and slot, or `-`
abbrev pub mover_text : Option Mover → List ℕ
mover_text None = codes "-"
mover_text (Some m) = decimal m.src ++ codes "," ++ decimal m.dst ++ codes "," ++ decimal m.page ++ codes "," ++ decimal m.slot

-- the clock, the last cas number and the flush limit
abbrev pub clock_text : Globals → List ℕ
clock_text g = codes " now " ++ decimal g.clock ++ codes " cas " ++ decimal g.last_cas ++ codes " mark " ++ decimal g.flush_limit

-- a pending flush, a page move, and the number of bump entries
abbrev pub pending_text : Globals → ℕ → List ℕ
pending_text g bump = codes " flush " ++ flush_text g.flush ++ codes " mover " ++ mover_text g.mover ++ codes " bump " ++ decimal bump

-- the answer to `:globals`
abbrev pub globals_text : State → List ℕ
globals_text s = output (codes "GLOBALS" ++ clock_text s.globals ++ pending_text s.globals (length s.bump))

-- the answer of a node
abbrev pub node_text : ℕ → List ℕ
node_text n = output (codes "NODE " ++ decimal n)

-- where `:back` arrives
abbrev pub parent_text : Option ℕ → List ℕ
parent_text None = output (codes "ROOT")
parent_text (Some n) = node_text n

-- a text that is answered of a class, NOCLASS where there is no such class
abbrev pub of_class : State → ℕ → List ℕ → List ℕ
of_class s c text = cond (is_class s c) text (output (codes "NOCLASS"))
