-- A step as the line of a script that asks for it, in the dialect CR LF.
-- Rule of memcached: its commands (protocol.txt).
-- Rule of this project: the lines of the actors and of the clock. What a line says beside its step is 0: the flags and
-- the expiry time of append and prepend.
use Rattle.std.specs.Prelude.{◌≡◌, ℕ, ℤ, pos, negsuc, ◌^◌, Bool, true, false, ◌&&◌, nat_le, nat_lt, if◌then◌else◌, List, [], ◌∷◌, ◌++◌, length, Option, None, Some, codes}
use Rattle.std.specs.Fmt.{decimal, signed_decimal}
use Rattle.rev_items.specs.Keys.{is_key}
use Rattle.rev_model.specs.Client.{ClientStep, Payload, Bytes, Skipped, Verb, Sets, Adds, Replaces, Cases, Side, Appends, Prepends, Sum, Increases, Decreases, Stores, Joins, Gets, Touches, Deletes, Evicts, Flushes, Counts}
use Rattle.rev_model.specs.Actor.{Step, Client, Pull, Bump, CrawlStart, Crawl, Schedule, Advance, Clock, Tune, TempTtl}
use Rattle.rev_model.specs.declared.ClassSet.{ClassSet}
use Rattle.rev_model.specs.declared.ClassSet.TheVariants.{All, These}
use Rattle.rev_requests.specs.Limits.{PlainTune, is_tune}
use Rattle.rev_script.specs.Script.{ScriptLine}
use Rattle.rev_script.specs.Steps.{all_steps}
use Rattle.rev_import.specs.Writing.{AreLines, line_text, factor_text, queue_name}

-- ---- which steps a line can ask for

-- the most bytes of data that a script can bring (the largest page)
abbrev pub most_data : ℕ
most_data = 1048576

-- a number of 32 bits
abbrev pub is_u32 : ℕ → Bool
is_u32 n = nat_lt n (2 ^ 32)

-- a number of 64 bits
abbrev pub is_u64 : ℕ → Bool
is_u64 n = nat_lt n (2 ^ 64)

-- a number of 32 bits with a sign
abbrev pub is_i32 : ℤ → Bool
is_i32 (pos n) = nat_lt n (2 ^ 31)
is_i32 (negsuc n) = nat_lt n (2 ^ 31)

-- data that are known, and that a script can bring
abbrev pub is_data : Payload → Bool
is_data (Bytes bytes) = nat_le (length bytes) most_data
is_data (Skipped n) = false

-- the number that `cas` asks for
abbrev pub is_verb : Verb → Bool
is_verb Sets = true
is_verb Adds = true
is_verb Replaces = true
is_verb (Cases n) = is_u64 n

abbrev pub is_delay : Option ℤ → Bool
is_delay None = false
is_delay (Some z) = is_i32 z

abbrev pub has_client_line : ClientStep → Bool
has_client_line (Stores v k flags e d) = is_verb v && (is_key k && (is_u32 flags && (is_i32 e && is_data d)))
has_client_line (Joins side k d) = is_key k && is_data d
has_client_line (Gets k) = is_key k
has_client_line (Touches k e) = is_key k && is_i32 e
has_client_line (Deletes k) = is_key k
has_client_line (Evicts k) = is_key k
has_client_line (Flushes delay) = is_delay delay
has_client_line (Counts sum k n) = is_key k && is_u64 n

-- the crawler is sent to all classes, or to none that a line is written for
abbrev pub is_all : ClassSet → Bool
is_all All = true
is_all (These set) = false

-- whether a line is written for the step: its key is one, its numbers are within their bits, its data are known and not
-- too many. A crawler that is sent to some classes has none.
unfoldable pub has_line : Step → Bool
has_line (Client e) = has_client_line e
has_line (Pull class queue) = is_u32 class
has_line Bump = true
has_line (CrawlStart set) = is_all set
has_line (Crawl class queue) = is_u32 class
has_line (Schedule source target) = is_u32 source && is_u32 target
has_line Advance = true
has_line (Clock now) = is_u32 now
has_line (Tune hot warm hot_factor warm_factor) = is_tune hot warm hot_factor warm_factor
has_line (TempTtl seconds) = is_i32 seconds

-- ---- the lines

-- a storage command with its data block; `cas` has its number behind the length
abbrev pub storage_text : List ℕ → List ℕ → ℕ → ℤ → List ℕ → List (List ℕ) → List ℕ
storage_text name k flags e bytes more = line_text name (k ∷ decimal flags ∷ signed_decimal e ∷ decimal (length bytes) ∷ more) ++ (bytes ++ codes "\r\n")

abbrev pub store_text : Verb → List ℕ → ℕ → ℤ → List ℕ → List ℕ
store_text Sets k flags e bytes = storage_text (codes "set") k flags e bytes []
store_text Adds k flags e bytes = storage_text (codes "add") k flags e bytes []
store_text Replaces k flags e bytes = storage_text (codes "replace") k flags e bytes []
store_text (Cases n) k flags e bytes = storage_text (codes "cas") k flags e bytes (decimal n ∷ [])

abbrev pub join_text : Side → List ℕ → List ℕ → List ℕ
join_text Appends k bytes = storage_text (codes "append") k 0 (pos 0) bytes []
join_text Prepends k bytes = storage_text (codes "prepend") k 0 (pos 0) bytes []

abbrev pub sum_text : Sum → List ℕ → ℕ → List ℕ
sum_text Increases k n = line_text (codes "incr") (k ∷ decimal n ∷ [])
sum_text Decreases k n = line_text (codes "decr") (k ∷ decimal n ∷ [])

-- the bytes of data that are known
abbrev pub known : Payload → List ℕ
known (Bytes bytes) = bytes
known (Skipped n) = []

abbrev pub flush_text : Option ℤ → List ℕ
flush_text None = []
flush_text (Some delay) = line_text (codes "flush_all") (signed_decimal delay ∷ [])

abbrev pub client_text : ClientStep → List ℕ
client_text (Stores v k flags e d) = store_text v k flags e (known d)
client_text (Joins side k d) = join_text side k (known d)
client_text (Gets k) = line_text (codes "get") (k ∷ [])
client_text (Touches k e) = line_text (codes "touch") (k ∷ signed_decimal e ∷ [])
client_text (Deletes k) = line_text (codes "delete") (k ∷ [])
client_text (Evicts k) = line_text (codes "~evict") (k ∷ [])
client_text (Flushes delay) = flush_text delay
client_text (Counts sum k n) = sum_text sum k n

-- shares in per cent, and factors in thousandths with three digits behind their point
abbrev pub tune_text : PlainTune → List ℕ
tune_text t = line_text (codes "lru") (codes "tune" ∷ decimal t.hot_share ∷ decimal t.warm_share ∷ factor_text t.hot_factor ∷ factor_text t.warm_factor ∷ [])

-- the line of a step that has one
abbrev pub text_of : Step → List ℕ
text_of (Client e) = client_text e
text_of (Pull class queue) = line_text (codes "~pull") (decimal class ∷ queue_name queue ∷ [])
text_of Bump = line_text (codes "~bump") []
text_of (CrawlStart set) = line_text (codes "lru_crawler") (codes "crawl" ∷ codes "all" ∷ [])
text_of (Crawl class queue) = line_text (codes "~crawl") (decimal class ∷ queue_name queue ∷ [])
text_of (Schedule source target) = line_text (codes "slabs") (codes "reassign" ∷ decimal source ∷ decimal target ∷ [])
text_of Advance = line_text (codes "~move") []
text_of (Clock now) = line_text (codes "@") (decimal now ∷ [])
text_of (Tune hot warm hot_factor warm_factor) = tune_text (record { hot_share = hot; warm_share = warm; hot_factor = hot_factor; warm_factor = warm_factor })
text_of (TempTtl seconds) = line_text (codes "lru") (codes "temp_ttl" ∷ signed_decimal seconds ∷ [])

-- the line of the step, where it has one
unfoldable pub written : Step → List ℕ
written s = if has_line s then text_of s else []

-- the lines of steps, one behind another
abbrev pub script_of : List Step → List ℕ
script_of [] = []
script_of (s ∷ ss) = written s ++ script_of ss

-- ---- reading them back

-- the bytes are whole lines, whatever follows them, and these ask for the steps, in order
pub record Asks (text : List ℕ) (steps : List Step) : Type 0 where
  pub lines : List ScriptLine
  pub are : AreLines text lines
  pub make : all_steps lines ≡ Some steps

-- the line of the step stands behind what was there, if it has one, which is told; what is read of it is the step
pub record Put (old new : List ℕ) (told : Bool) (s : Step) : Type 0 where
  pub tells : told ≡ has_line s
  pub behind : new ≡ old ++ written s
  pub reads : told ≡ true → Asks (written s) (s ∷ [])
