-- The step that a line asks for, and the steps of all lines.
-- Rule of this project: a `get` is a step for each key, and append and prepend use no flags or expiry time of their
-- line.
use Rattle.std.specs.Prelude.{◌≡◌, ◌+◌, ℕ, ℤ, List, [], ◌∷◌, ◌++◌, take, map, Option, None, Some, slice_get}
use Rattle.rev_model.specs.Client.{ClientStep, Payload, Stores, Joins, Gets, Flushes}
use Rattle.rev_model.specs.Actor.{Step, Client, Tune}
use Rattle.rev_requests.specs.Limits.{PlainTune}
use Rattle.rev_requests.specs.Plain.{plain_verb, plain_side, plain_keyed, plain_actor}
use Rattle.rev_script.specs.Script.{ScriptLine, StorageLine, RetrievalLine, UpdateLine, FlushLine, ActorLine, TuneLine, DebugLine, QueryLine, BookmarkLine, BadLine}
use Rattle.rev_requests.specs.declared.clients.KeyCommand.{KeyCommand}
use Rattle.rev_script.specs.declared.command.StorageCommand.{StorageCommand}
use Rattle.rev_script.specs.declared.command.StorageCommand.TheVariants.{Store, Join}

-- ---- the step of a command

-- a join keeps the item's flags and moment, whatever its line says
abbrev pub plain_storage : StorageCommand → List ℕ → ℕ → ℤ → Payload → ClientStep
plain_storage (Store verb) k flags exptime payload = Stores (plain_verb verb) k flags exptime payload
plain_storage (Join side) k flags exptime payload = Joins (plain_side side) k payload

abbrev pub storage_step : StorageCommand → List ℕ → ℕ → ℤ → Payload → Step
storage_step c k flags exptime payload = Client (plain_storage c k flags exptime payload)

abbrev pub keyed_step : KeyCommand → List ℕ → Step
keyed_step c k = Client (plain_keyed c k)

abbrev pub get : List ℕ → Step
get k = Client (Gets k)

-- no delay is 0
abbrev pub flush_step : ℤ → Step
flush_step delay = Client (Flushes (Some delay))

abbrev pub tune_step : PlainTune → Step
tune_step t = Tune t.hot_share t.warm_share t.hot_factor t.warm_factor

-- ---- the steps of lines

-- the steps of a line, in order: one for each key of a `get`; None for a debug line and for a malformed one
abbrev pub steps_of : ScriptLine → Option (List Step)
steps_of (StorageLine c key flags exptime payload noreply) = Some (storage_step c key flags exptime payload ∷ [])
steps_of (RetrievalLine keys with_cas) = Some (map get keys)
steps_of (UpdateLine c key noreply) = Some (keyed_step c key ∷ [])
steps_of (FlushLine delay noreply) = Some (flush_step delay ∷ [])
steps_of (ActorLine a) = Some (plain_actor a ∷ [])
steps_of (TuneLine t) = Some (tune_step t ∷ [])
steps_of (DebugLine c) = None
steps_of (QueryLine q key) = None
steps_of (BookmarkLine c name) = None
steps_of (BadLine a) = None

-- steps, and then more of them; None where either is
abbrev pub joined : Option (List Step) → Option (List Step) → Option (List Step)
joined None more = None
joined (Some own) None = None
joined (Some own) (Some more) = Some (own ++ more)

-- the steps of the lines, one line after another; None where a line makes no step
abbrev pub all_steps : List ScriptLine → Option (List Step)
all_steps [] = Some []
all_steps (l ∷ ls) = joined (steps_of l) (all_steps ls)

-- each of the lines makes steps
abbrev pub AreSteps : List ScriptLine → Type 0
AreSteps ls = (steps : List Step) × (all_steps ls ≡ Some steps)

-- the line of this number, from 1, is the first that makes no step
abbrev pub IsFirstOther : ℕ → List ScriptLine → Type 0
IsFirstOther n ls = (before : ℕ) × (line : ScriptLine) × (n ≡ before + 1) × (slice_get ls before ≡ Some line) × (steps_of line ≡ None) × AreSteps (take before ls)
