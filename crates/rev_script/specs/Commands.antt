-- What a line's words ask for. A line's first word names a command; the words behind it are looked at in this
-- order: how many
-- there are and whether `noreply` stands where it may, then keys, then numbers. The first fault decides the answer.
-- Rule of memcached: its commands and the texts of its errors (protocol.txt).
-- Rule of this project: the commands of the actors and the lines that begin with `:`.
use Rattle.std.specs.Prelude.{ℕ, ◌+◌, ◌==◌, Bool, true, false, ◌&&◌, ◌||◌, nat_le, nat_lt, if◌then◌else◌, List, [], ◌∷◌, length, drop, Option, None, Some, codes, ℤ, pos}
use Rattle.std.specs.List.{list_all, slice_split}
use Rattle.std.specs.Str.{bytes_eq}
use Rattle.rev_script.specs.Number.{number, number_u32, signed, is_factor, factor, ids}
use Rattle.rev_script.specs.Words.{words, word, is_name, are_words}
use Rattle.rev_items.specs.Keys.{is_key}
use Rattle.rev_model.specs.declared.ClassSet.TheVariants.{All, These}
use Rattle.rev_requests.specs.Limits.{most_shares, is_tune}
use Rattle.rev_script.specs.declared.command.BadAnswer.TheVariants.{Error, BadFormat, DeleteUsage, BadExptime, BadDelta, SharesOver80, LineTooLong, BadCommand}
use Rattle.rev_model.specs.declared.Queue.{Queue}
use Rattle.rev_model.specs.declared.Queue.TheVariants.{Hot, Warm, Cold, Temp}
use Rattle.rev_requests.specs.declared.clients.StoreVerb.{StoreVerb}
use Rattle.rev_requests.specs.declared.clients.StoreVerb.TheVariants as verbs
use Rattle.rev_requests.specs.declared.clients.JoinSide.{JoinSide}
use Rattle.rev_requests.specs.declared.clients.JoinSide.TheVariants as sides
use Rattle.rev_requests.specs.declared.clients.Arithmetic.TheVariants as sums
use Rattle.rev_requests.specs.declared.clients.KeyCommand.TheVariants as keyed
use Rattle.rev_requests.specs.declared.actors.ActorStep.TheVariants as actors
use Rattle.rev_script.specs.declared.command.StorageCommand.{StorageCommand}
use Rattle.rev_script.specs.declared.command.StorageCommand.TheVariants.{Store, Join}
use Rattle.rev_script.specs.declared.command.DebugCommand.{DebugCommand}
use Rattle.rev_script.specs.declared.command.DebugCommand.TheVariants as debugs
use Rattle.rev_script.specs.declared.command.KeyQuery.{KeyQuery}
use Rattle.rev_script.specs.declared.command.KeyQuery.TheVariants as queries
use Rattle.rev_script.specs.declared.command.BookmarkCommand.{BookmarkCommand}
use Rattle.rev_script.specs.declared.command.BookmarkCommand.TheVariants as bookmarks
use Rattle.rev_script.specs.declared.command.Command.{Command}
use Rattle.rev_script.specs.declared.command.Command.TheVariants.{Storage, Retrieval, Update, FlushAll, Actor, Tune, Debug, Query, Bookmark, Bad}

-- ---- set, add, replace, append, prepend <key> <flags> <exptime> <bytes> [noreply]
-- ---- cas <key> <flags> <exptime> <bytes> <cas> [noreply]

-- the verb of this name, but for `cas`
unfoldable pub verb_of : List ℕ → Option StoreVerb
verb_of w =
    if bytes_eq w (codes "set") then Some verbs.Set
    else (if bytes_eq w (codes "add") then Some verbs.Add
    else (if bytes_eq w (codes "replace") then Some verbs.Replace
    else None))

-- the side to which a command of this name joins data
unfoldable pub side_of : List ℕ → Option JoinSide
side_of w =
    if bytes_eq w (codes "append") then Some sides.Append
    else (if bytes_eq w (codes "prepend") then Some sides.Prepend
    else None)

-- flags, expiry time and bytes, each where its word is such a number
abbrev pub storage_line : StorageCommand → Option ℕ → Option ℤ → Option ℕ → Bool → Command
storage_line c None exptime size noreply = Bad BadFormat
storage_line c (Some flags) None size noreply = Bad BadFormat
storage_line c (Some flags) (Some exptime) None noreply = Bad BadFormat
storage_line c (Some flags) (Some exptime) (Some size) noreply = Storage c flags exptime size noreply

-- the line's first n words, with `noreply` where one more is there
unfoldable pub storage : StorageCommand → ℕ → List (List ℕ) → Command
storage c n ws =
    if is_key (word ws 1) then
    storage_line c (number_u32 (word ws 2)) (signed (word ws 3)) (number 2147483645 (word ws 4)) (length ws == n + 1)
    else Bad BadFormat

unfoldable pub storage_command : StorageCommand → List (List ℕ) → Command
storage_command c ws = if are_words 5 ws then storage c 5 ws else Bad Error

-- the unique number of `cas` is looked at first; a bad one is answered as a bad key or any other bad number is
abbrev pub cas_of : Option ℕ → List (List ℕ) → Command
cas_of None ws = Bad BadFormat
cas_of (Some n) ws = storage (Store (verbs.Cas n)) 6 ws

unfoldable pub cas_command : List (List ℕ) → Command
cas_command ws = if are_words 6 ws then cas_of (number 18446744073709551615 (word ws 5)) ws else Bad Error

-- ---- get <key>+; gets <key>+: each word is checked before any step is made

unfoldable pub retrieval_command : Bool → List (List ℕ) → Command
retrieval_command with_cas ws =
    if nat_le (length ws) 1 then Bad Error
    else (if list_all is_key (drop 1 ws) then Retrieval with_cas else Bad BadFormat)

-- ---- delete <key> [0] [noreply]

-- nothing stands behind the key, or `0`, or `noreply`, or `0 noreply`; the 0 is this very word
abbrev pub is_delete_tail : List (List ℕ) → Bool
is_delete_tail ws =
    (length ws == 2)
    || ((length ws == 3) && (bytes_eq (word ws 2) (codes "0") || bytes_eq (word ws 2) (codes "noreply")))
    || ((length ws == 4) && bytes_eq (word ws 2) (codes "0") && bytes_eq (word ws 3) (codes "noreply"))

-- one or two words behind the key that are not those are answered by the usage, whatever the key is
unfoldable pub delete_command : List (List ℕ) → Command
delete_command ws =
    if nat_lt (length ws) 2 || nat_lt 4 (length ws) then Bad Error
    else (if is_delete_tail ws then
    (if is_key (word ws 1) then
    Update keyed.Delete ((length ws == 4) || ((length ws == 3) && bytes_eq (word ws 2) (codes "noreply")))
    else Bad BadFormat)
    else Bad DeleteUsage)

-- ---- touch <key> <exptime> [noreply]; incr, decr <key> <number> [noreply]: a bad number beside a good key has a text
-- of its own

abbrev pub touch_of : Option ℤ → Bool → Command
touch_of None noreply = Bad BadExptime
touch_of (Some n) noreply = Update (keyed.Touch n) noreply

unfoldable pub touch_command : List (List ℕ) → Command
touch_command ws =
    if are_words 3 ws then (if is_key (word ws 1) then touch_of (signed (word ws 2)) (length ws == 4) else Bad BadFormat)
    else Bad Error

abbrev pub increment_of : Option ℕ → Bool → Command
increment_of None noreply = Bad BadDelta
increment_of (Some n) noreply = Update (keyed.Count (sums.Increment n)) noreply

unfoldable pub increment_command : List (List ℕ) → Command
increment_command ws =
    if are_words 3 ws then
    (if is_key (word ws 1) then increment_of (number 18446744073709551615 (word ws 2)) (length ws == 4) else Bad BadFormat)
    else Bad Error

abbrev pub decrement_of : Option ℕ → Bool → Command
decrement_of None noreply = Bad BadDelta
decrement_of (Some n) noreply = Update (keyed.Count (sums.Decrement n)) noreply

unfoldable pub decrement_command : List (List ℕ) → Command
decrement_command ws =
    if are_words 3 ws then
    (if is_key (word ws 1) then decrement_of (number 18446744073709551615 (word ws 2)) (length ws == 4) else Bad BadFormat)
    else Bad Error

-- ---- flush_all [delay] [noreply]: no delay is 0; any second word but `noreply` is a delay

abbrev pub flush_of : Option ℤ → Bool → Command
flush_of None noreply = Bad BadFormat
flush_of (Some n) noreply = FlushAll n noreply

unfoldable pub flush_command : List (List ℕ) → Command
flush_command ws =
    if nat_le (length ws) 1 then FlushAll (pos 0) false
    else (if bytes_eq (word ws 1) (codes "noreply") then (if length ws == 2 then FlushAll (pos 0) true else Bad Error)
    else (if are_words 2 ws then flush_of (signed (word ws 1)) (length ws == 3) else Bad Error))

-- ---- lru_crawler crawl <id,id,..>|all: a list is never malformed; slabs reassign <source> <target>

unfoldable pub crawler_command : List (List ℕ) → Command
crawler_command ws =
    if (length ws == 3) && bytes_eq (word ws 1) (codes "crawl") then
    (if bytes_eq (word ws 2) (codes "all") then Actor (actors.StartCrawl All)
    else Actor (actors.StartCrawl (These (ids (slice_split (λ b. b == 44) (word ws 2))))))
    else Bad Error

abbrev pub reassign_of : Option ℕ → Option ℕ → Command
reassign_of None target = Bad BadFormat
reassign_of (Some source) None = Bad BadFormat
reassign_of (Some source) (Some target) = Actor (actors.Reassign source target)

unfoldable pub slabs_command : List (List ℕ) → Command
slabs_command ws =
    if (length ws == 4) && bytes_eq (word ws 1) (codes "reassign") then
    reassign_of (number_u32 (word ws 2)) (number_u32 (word ws 3))
    else Bad Error

-- ---- lru tune <hot> <warm> <hot factor> <warm factor>; lru temp_ttl <n>

abbrev pub temp_ttl_of : Option ℤ → Command
temp_ttl_of None = Bad BadFormat
temp_ttl_of (Some n) = Actor (actors.TempTtl n)

-- the four numbers within their limits
abbrev pub tune_of : ℕ → ℕ → Option ℕ → Option ℕ → Command
tune_of hot warm None warm_factor = Bad BadFormat
tune_of hot warm (Some hot_factor) None = Bad BadFormat
tune_of hot warm (Some hot_factor) (Some warm_factor) =
    if is_tune hot warm hot_factor warm_factor then
    Tune record { hot_share = hot; warm_share = warm; hot_factor = hot_factor; warm_factor = warm_factor }
    else Bad BadFormat

-- two percentages beside two words that have a factor's form; their sum is looked at before the factors' range
abbrev pub tune_percent : Option ℕ → Option ℕ → List (List ℕ) → Command
tune_percent None warm ws = Bad BadFormat
tune_percent (Some hot) None ws = Bad BadFormat
tune_percent (Some hot) (Some warm) ws =
    if nat_lt most_shares (hot + warm) then Bad SharesOver80 else tune_of hot warm (factor (word ws 4)) (factor (word ws 5))

unfoldable pub tune_command : List (List ℕ) → Command
tune_command ws =
    if is_factor (word ws 4) && is_factor (word ws 5) then
    tune_percent (number_u32 (word ws 2)) (number_u32 (word ws 3)) ws
    else Bad BadFormat

unfoldable pub lru_command : List (List ℕ) → Command
lru_command ws =
    if (length ws == 3) && bytes_eq (word ws 1) (codes "temp_ttl") then temp_ttl_of (signed (word ws 2))
    else (if (length ws == 6) && bytes_eq (word ws 1) (codes "tune") then tune_command ws else Bad Error)

-- ---- ~pull <class> <queue>; ~bump; ~crawl <class> <queue>; ~move; @ <time>; ~evict <key>: no fault has a text of
-- its own

unfoldable pub queue_of : List ℕ → Option Queue
queue_of w =
    if bytes_eq w (codes "hot") then Some Hot
    else (if bytes_eq w (codes "warm") then Some Warm
    else (if bytes_eq w (codes "cold") then Some Cold
    else (if bytes_eq w (codes "temp") then Some Temp
    else None)))

-- a class and the name of a queue
abbrev pub with_queue : (ℕ → Queue → Command) → Option ℕ → Option Queue → Command
with_queue f None queue = Bad BadCommand
with_queue f (Some n) None = Bad BadCommand
with_queue f (Some n) (Some queue) = f n queue

abbrev pub clock_of : Option ℕ → Command
clock_of None = Bad BadCommand
clock_of (Some n) = Actor (actors.Clock n)

unfoldable pub evict_command : List (List ℕ) → Command
evict_command ws = if is_key (word ws 1) then Update keyed.Evict false else Bad BadCommand

unfoldable pub actor_command : List (List ℕ) → Command
actor_command ws =
    if (length ws == 1) && bytes_eq (word ws 0) (codes "~bump") then Actor actors.Bump
    else (if (length ws == 1) && bytes_eq (word ws 0) (codes "~move") then Actor actors.Advance
    else (if (length ws == 3) && bytes_eq (word ws 0) (codes "~pull") then
    with_queue (λ n q. Actor (actors.Pull n q)) (number_u32 (word ws 1)) (queue_of (word ws 2))
    else (if (length ws == 3) && bytes_eq (word ws 0) (codes "~crawl") then
    with_queue (λ n q. Actor (actors.Crawl n q)) (number_u32 (word ws 1)) (queue_of (word ws 2))
    else (if (length ws == 2) && bytes_eq (word ws 0) (codes "@") then clock_of (number_u32 (word ws 1))
    else (if (length ws == 2) && bytes_eq (word ws 0) (codes "~evict") then evict_command ws
    else Bad BadCommand)))))

-- ---- debug commands

-- those that stand alone; no place is 0
unfoldable pub bare_debug : List ℕ → Option DebugCommand
bare_debug w =
    if bytes_eq w (codes ":at") then Some debugs.At
    else (if bytes_eq w (codes ":back") then Some debugs.Back
    else (if bytes_eq w (codes ":forward") then Some (debugs.Forward 0)
    else (if bytes_eq w (codes ":pages") then Some debugs.Pages
    else (if bytes_eq w (codes ":globals") then Some debugs.Globals
    else (if bytes_eq w (codes ":tree") then Some debugs.Tree
    else (if bytes_eq w (codes ":marks") then Some debugs.Marks
    else (if bytes_eq w (codes ":gone") then Some (debugs.Gone None)
    else (if bytes_eq w (codes ":classes") then Some debugs.Classes
    else (if bytes_eq w (codes ":help") then Some debugs.Help
    else None)))))))))

-- those that take a key
unfoldable pub query_of : List ℕ → Option KeyQuery
query_of w =
    if bytes_eq w (codes ":item") then Some queries.Item
    else (if bytes_eq w (codes ":chunk") then Some queries.Chunk
    else (if bytes_eq w (codes ":why") then Some queries.Why
    else (if bytes_eq w (codes ":story") then Some queries.Story
    else None)))

-- those that take a name: of a bookmark, or for `:help` a command's word
unfoldable pub bookmark_of : List ℕ → Option BookmarkCommand
bookmark_of w =
    if bytes_eq w (codes ":mark") then Some bookmarks.Mark
    else (if bytes_eq w (codes ":goto") then Some bookmarks.Goto
    else (if bytes_eq w (codes ":help") then Some bookmarks.Help
    else None))

-- those that take a number
unfoldable pub number_debug : List ℕ → ℕ → Option DebugCommand
number_debug w n =
    if bytes_eq w (codes ":forward") then Some (debugs.Forward n)
    else (if bytes_eq w (codes ":go") then Some (debugs.Go n)
    else (if bytes_eq w (codes ":free") then Some (debugs.Free n)
    else (if bytes_eq w (codes ":counters") then Some (debugs.Counters n)
    else (if bytes_eq w (codes ":prune") then Some (debugs.Prune n)
    else (if bytes_eq w (codes ":gone") then Some (debugs.Gone (Some n))
    else (if bytes_eq w (codes ":step") then Some (debugs.Step n)
    else (if bytes_eq w (codes ":time") then Some (debugs.Time n)
    else None)))))))

abbrev pub debug_or_none : Option DebugCommand → Command
debug_or_none None = Bad BadCommand
debug_or_none (Some c) = Debug c

-- a command that is in this table wants its word right; any other is looked for in the next
abbrev pub query_or : Option KeyQuery → Bool → Command → Command
query_or None right other = other
query_or (Some q) right other = if right then Query q else Bad BadCommand

abbrev pub bookmark_or : Option BookmarkCommand → Bool → Command → Command
bookmark_or None right other = other
bookmark_or (Some c) right other = if right then Bookmark c else Bad BadCommand

abbrev pub debug_number : List ℕ → Option ℕ → Command
debug_number w None = Bad BadCommand
debug_number w (Some n) = debug_or_none (number_debug w n)

unfoldable pub word_debug : List ℕ → List ℕ → Command
word_debug w x = query_or (query_of w) (is_key x) (bookmark_or (bookmark_of w) (is_name x) (debug_number w (number_u32 x)))

-- a queue's entries, as many as are wanted, by the two words behind the command's
unfoldable pub queue_command : List (List ℕ) → Option ℕ → Command
queue_command ws limit = with_queue (λ n q. Debug (debugs.Queue n q limit)) (number_u32 (word ws 1)) (queue_of (word ws 2))

abbrev pub queue_limited : List (List ℕ) → Option ℕ → Command
queue_limited ws None = Bad BadCommand
queue_limited ws (Some limit) = queue_command ws (Some limit)

unfoldable pub debug_command : List (List ℕ) → Command
debug_command ws =
    if length ws == 1 then debug_or_none (bare_debug (word ws 0))
    else (if length ws == 2 then word_debug (word ws 0) (word ws 1)
    else (if (length ws == 3) && bytes_eq (word ws 0) (codes ":queue") then queue_command ws None
    else (if (length ws == 4) && bytes_eq (word ws 0) (codes ":queue") then queue_limited ws (number_u32 (word ws 3))
    else Bad BadCommand)))

-- ---- all of them: by the first word's first byte, where it is one that no command of a client has (58 is `:`, 64 is
-- `@`, 126 is `~`), and else by that word

abbrev pub begins : ℕ → List ℕ → Bool
begins b [] = false
begins b (x ∷ xs) = x == b

-- a line that speaks of the whole memory, by its first word
unfoldable pub memory_command : List ℕ → List (List ℕ) → Command
memory_command w ws =
    if bytes_eq w (codes "flush_all") then flush_command ws
    else (if bytes_eq w (codes "lru_crawler") then crawler_command ws
    else (if bytes_eq w (codes "slabs") then slabs_command ws
    else (if bytes_eq w (codes "lru") then lru_command ws
    else Bad Error)))

-- any other line of a client, by its first word
unfoldable pub other_command : List ℕ → List (List ℕ) → Command
other_command w ws =
    if bytes_eq w (codes "cas") then cas_command ws
    else (if bytes_eq w (codes "get") then retrieval_command false ws
    else (if bytes_eq w (codes "gets") then retrieval_command true ws
    else (if bytes_eq w (codes "delete") then delete_command ws
    else (if bytes_eq w (codes "touch") then touch_command ws
    else (if bytes_eq w (codes "incr") then increment_command ws
    else (if bytes_eq w (codes "decr") then decrement_command ws
    else memory_command w ws))))))

abbrev pub join_or : Option JoinSide → List (List ℕ) → Command
join_or None ws = other_command (word ws 0) ws
join_or (Some side) ws = storage_command (Join side) ws

abbrev pub store_or : Option StoreVerb → List (List ℕ) → Command
store_or None ws = join_or (side_of (word ws 0)) ws
store_or (Some verb) ws = storage_command (Store verb) ws

unfoldable pub command : List (List ℕ) → Command
command ws =
    if begins 58 (word ws 0) then debug_command ws
    else (if begins 64 (word ws 0) || begins 126 (word ws 0) then actor_command ws
    else store_or (verb_of (word ws 0)) ws)

-- how many bytes such a line may have without its ending
abbrev pub longest : List (List ℕ) → ℕ
longest ws = if bytes_eq (word ws 0) (codes "get") || bytes_eq (word ws 0) (codes "gets") then 65536 else 2048

-- what a line asks for, by its bytes without its ending; one that is too long is not looked at further
unfoldable pub asked : List ℕ → Command
asked body = if nat_lt (longest (words body)) (length body) then Bad LineTooLong else command (words body)
