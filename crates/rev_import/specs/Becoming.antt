-- What becomes of the events of a log: lines of clients, of which each makes one step.
use Rattle.std.specs.Prelude.{◌≡◌, ◌≤◌, ◌+◌, ◌^◌, ℕ, ℤ, pos, negsuc, Bool, true, false, ◌||◌, nat_lt, nat_le, if◌then◌else◌, List, [], ◌∷◌, ◌++◌, replicate, Option, Some, None}
use Rattle.rev_model.specs.Client.{Bytes}
use Rattle.rev_script.specs.Script.{ScriptLine, RetrievalLine, UpdateLine, StorageLine}
use Rattle.rev_requests.specs.declared.clients.KeyCommand.TheVariants.{Delete}
use Rattle.rev_watch.specs.declared.event.Event.{Event}
use Rattle.rev_watch.specs.declared.event.Event.TheVariants.{LookUp, Store, Deletion, Eviction, PageMove, CrawlEnd, ConnectionOpened, ConnectionClosed, Unknown}
use Rattle.rev_watch.specs.declared.event.LogLine.{LogLine}
use Rattle.rev_watch.specs.declared.event.LookUpOutcome.{LookUpOutcome}
use Rattle.rev_watch.specs.declared.event.LookUpOutcome.TheVariants as look_ups
use Rattle.rev_watch.specs.declared.event.StoreCommand.{StoreCommand}
use Rattle.rev_watch.specs.declared.event.StoreCommand.TheVariants as commands
use Rattle.rev_watch.specs.declared.event.StoreOutcome.{StoreOutcome}
use Rattle.rev_watch.specs.declared.event.StoreOutcome.TheVariants as outcomes
use Rattle.rev_import.specs.Writing.{Writes, storage}
use Rattle.rev_import.specs.declared.figures.Figures.{Figures}
use Rattle.rev_import.specs.declared.writing.Storing.{Storing}
use Rattle.rev_import.specs.declared.writing.Storing.TheVariants as storings

-- ---- the lines of one event

abbrev pub get : List ℕ → ScriptLine
get key = RetrievalLine (key ∷ []) false

abbrev pub delete : List ℕ → ScriptLine
delete key = UpdateLine Delete key false

-- a look-up that found its key, by whether it is the look-up of another command, and whether it is a delete
abbrev pub hit_lines : List ℕ → Bool → Bool → List ScriptLine
hit_lines key true deletes = []
hit_lines key false true = delete key ∷ []
hit_lines key false false = get key ∷ []

-- the key is deleted where it was held
abbrev pub dropped_lines : List ℕ → Bool → List ScriptLine
dropped_lines key true = delete key ∷ []
dropped_lines key false = []

-- a get, unless it is the look-up of another command
abbrev pub got_lines : List ℕ → Bool → List ScriptLine
got_lines key true = []
got_lines key false = get key ∷ []

-- one that did not find its key, by whether it is the look-up of another command, and whether the key was deleted
-- before
abbrev pub miss_lines : List ℕ → Bool → Bool → List ScriptLine
miss_lines key own deletes = dropped_lines key deletes ++ got_lines key own

abbrev pub look_up_lines : LookUpOutcome → List ℕ → Bool → Bool → List ScriptLine
look_up_lines look_ups.Found key own deletes = hit_lines key own deletes
look_up_lines outcome key own deletes = miss_lines key own deletes

-- data that the server or a script can't store
abbrev pub is_too_large : StoreOutcome → ℕ → Bool
is_too_large outcomes.TooLarge size = true
is_too_large outcome size = nat_lt 1048576 size

-- the command for one that was not stored
abbrev pub refused : StoreOutcome → StoreCommand → Storing
refused outcome commands.Add = storings.Add
refused outcome commands.Replace = storings.Replace
refused outcome commands.Append = storings.Replace
refused outcome commands.Prepend = storings.Replace
refused outcomes.NoMemory commands.Cas = storings.Replace
refused outcomes.NoMemory command = storings.Set
refused outcomes.NotFound command = storings.Replace
refused outcome command = storings.Add

-- the command for one that was logged
abbrev pub storing_of : StoreOutcome → StoreCommand → Storing
storing_of outcomes.Stored command = storings.Set
storing_of outcome command = refused outcome command

-- the expiry time for a time to live that was logged at this second
abbrev pub exptime_of : ℕ → ℕ → ℤ
exptime_of now ttl =
    if nat_le (2 ^ 31) ttl then negsuc 0
    else (if nat_le ttl 2592000 then pos ttl
    else (if nat_lt (now + ttl) (2 ^ 31) then pos (now + ttl)
    else pos 0))

abbrev pub store_lines : Storing → List ℕ → ℕ → ℤ → ℕ → List ScriptLine
store_lines storing key flags exptime size = StorageLine (storage storing) key flags exptime (Bytes (replicate size 120)) false ∷ []

-- the lines of clients that an event becomes, by two guesses and by flags, which the log does not tell
abbrev pub event_lines : {A : Type 0} → ℕ → Event A → Bool → Bool → ℕ → List ScriptLine
event_lines now (LookUp key outcome class connection size) own deletes flags = look_up_lines outcome key own deletes
event_lines now (Store key command outcome ttl class connection size) own deletes flags =
    if is_too_large outcome size then dropped_lines key deletes
    else store_lines (storing_of outcome command) key flags (exptime_of now ttl) size
event_lines now (Deletion key connection) own deletes flags = delete key ∷ []
event_lines now (Eviction key fetched ttl last_access class size) own deletes flags = []
event_lines now (PageMove source target) own deletes flags = []
event_lines now (CrawlEnd class queue elapsed examined reclaimed) own deletes flags = []
event_lines now (ConnectionOpened connection) own deletes flags = []
event_lines now (ConnectionClosed connection) own deletes flags = []
event_lines now (Unknown kind) own deletes flags = []

-- an event may become these lines of clients
pub record Becomes {A : Type 0} (line : LogLine A) (lines : List ScriptLine) : Type 0 where
  pub own : Bool
  pub deletes : Bool
  pub flags : ℕ
  pub few : flags ≤ 1
  pub same : lines ≡ event_lines line.time.seconds line.event own deletes flags

-- ---- the lines of events, one behind another

abbrev pub Became : {A : Type 0} → List (LogLine A) → List ScriptLine → Type 0
Became [] lines = lines ≡ []
Became (e ∷ es) lines = (first rest : List ScriptLine) × (lines ≡ first ++ rest) × Becomes e first × Became es rest

-- of the events that waited those in front wait no longer, and their lines were written, in their order
pub record Moves {A : Type 0} (before after : List (LogLine A)) (old new : List ℕ) : Type 0 where
  pub moved : List (LogLine A)
  pub parted : before ≡ moved ++ after
  pub clients : List ScriptLine
  pub became : Became moved clients
  pub writes : Writes old new clients

-- ---- an import

-- what a contract sees of an import: the events that wait, and what was counted
pub record PlainImport (A : Type 0) : Type 0 where
  pub waiting : List (LogLine A)
  pub figures : Figures

-- the key that an eviction took away
abbrev pub evicted_key : {A : Type 0} → Event A → Option (List ℕ)
evicted_key (Eviction key fetched ttl last_access class size) = Some key
evicted_key event = None

-- the second of the event that waits longest
abbrev pub first_second : {A : Type 0} → List (LogLine A) → Option ℕ
first_second [] = None
first_second (line ∷ lines) = Some line.time.seconds
