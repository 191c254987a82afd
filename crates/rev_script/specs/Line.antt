-- What a contract sees of a line of the code.
-- Rule of this project: which line of a script it stands for, and what was taken where a fault came.
use Rattle.std.specs.Prelude.{ℤ, ◌≡◌, ◌≢◌, ◌⊎◌, ◌<◌, ◌+◌, ℕ, Bool, true, false, length, drop, List, [], Option, None, Some}
use Rattle.rev_requests.specs.Plain.{plain_payload}
use Rattle.rev_script.specs.Words.{word}
use Rattle.rev_script.specs.declared.command.StorageCommand.{StorageCommand}
use Rattle.rev_script.specs.declared.command.Command.{Command}
use Rattle.rev_script.specs.declared.command.Command.TheVariants as commands
use Rattle.rev_script.specs.ByteReader.{PlainReader, Took, Broke, AtEnd}
use Rattle.rev_script.specs.RawLine.{IsRest}
use Rattle.rev_script.specs.Script.{ScriptLine, StorageLine, RetrievalLine, UpdateLine, FlushLine, ActorLine, TuneLine, DebugLine, QueryLine, BookmarkLine, BadLine, line_of, storage_line_of, ending_size, is_ending, is_passed, onwards, cuts, whole_lines, IsWhole, IsLast}
use Rattle.rev_script.specs.declared.dialect.Dialect.{Dialect}
use Rattle.rev_script.specs.declared.byte_reader.LineFault.{LineFault}
use Rattle.rev_script.specs.declared.byte_reader.LineFault.TheVariants as faults
use Rattle.rev_script.specs.declared.line.ClientLine as the_client
use Rattle.rev_script.specs.declared.line.ClientLine.TheVariants as clients
use Rattle.rev_script.specs.declared.line.DebugLine as the_debug
use Rattle.rev_script.specs.declared.line.DebugLine.TheVariants as debugs
use Rattle.rev_script.specs.declared.line.Line.{Line}
use Rattle.rev_script.specs.declared.line.Line.TheVariants as lines
use Rattle.rev_script.specs.declared.line.Asked.{Asked}
use Rattle.rev_script.specs.declared.line.Asked.TheVariants as askeds

abbrev pub client_view : {A : Type 0} → the_client.ClientLine A → ScriptLine
client_view (clients.Storage c key flags exptime payload noreply) =
    StorageLine c key flags exptime (plain_payload payload) noreply
client_view (clients.Retrieval keys with_cas) = RetrievalLine keys.items with_cas
client_view (clients.Update c key noreply) = UpdateLine c key noreply
client_view (clients.FlushAll delay noreply) = FlushLine delay noreply

abbrev pub debug_view : {A : Type 0} → the_debug.DebugLine A → ScriptLine
debug_view (debugs.Plain c) = DebugLine c
debug_view (debugs.Query q key) = QueryLine q key
debug_view (debugs.Bookmark c name) = BookmarkLine c name.items

-- the line as the definitions of a script have it
abbrev pub view : {A : Type 0} → Line A → ScriptLine
view (lines.Client line) = client_view line
view (lines.Actor a) = ActorLine a
view (lines.Tune t) = TuneLine t
view (lines.Debug line) = debug_view line
view (lines.Bad answer) = BadLine answer

-- whether a data block follows the line
abbrev pub has_block : Command → Bool
has_block (commands.Storage c flags exptime size noreply) = true
has_block _ = false

-- a storage command with its key, and else the whole line, which is the same in each dialect
abbrev pub IsAsked : {A : Type 0} → Asked A → Command → List (List ℕ) → Type 0
IsAsked (askeds.Done line) c ws = (has_block c ≡ false) × ((d : Dialect) → view line ≡ line_of d c ws [])
IsAsked (askeds.Storage s key flags exptime size noreply) c ws =
    (c ≡ commands.Storage s flags exptime size noreply) × (key ≡ word ws 1)

-- what a reader of lines reads: bytes in a dialect. Perhaps the rest of a line is to be passed over first.
pub record PlainInput : Type 0 where
  pub bytes : PlainReader
  pub dialect : Dialect
  pub passes : Bool

-- the next line was taken; none only at the end
abbrev pub IsNext : PlainInput → PlainInput → Option ScriptLine → Type 0
IsNext old new None =
    (taken : List ℕ) × Took old.bytes new.bytes taken × (new.dialect ≡ old.dialect) × (cuts old.dialect (onwards old.passes taken) ≡ []) × AtEnd new.bytes
IsNext old new (Some line) =
    (taken : List ℕ) × Took old.bytes new.bytes taken × (new.dialect ≡ old.dialect) ×
    (IsWhole old.dialect old.passes new.passes taken line ⊎ (IsLast old.dialect old.passes taken line × AtEnd new.bytes))

-- the rest of a line that is passed over was taken, where there is one in front, and a line begins behind it
pub record IsBehindRest (old new : PlainInput) : Type 0 where
  pub begins : new.passes ≡ false
  pub dialect_is : new.dialect ≡ old.dialect
  pub rest : old.passes ≡ true → IsRest old.bytes new.bytes true
  pub none : old.passes ≡ false → new.bytes ≡ old.bytes

-- a part of a line was taken (at Memory perhaps all of it), and then a fault came
abbrev pub IsFault : PlainInput → PlainInput → LineFault → Type 0
IsFault old new e =
    (taken : List ℕ) × Broke old.bytes new.bytes taken e × (e ≢ faults.Memory → whole_lines old.dialect (onwards old.passes taken) ≡ 0)

-- a data block was taken, or what there is of it, and the storage line made of it
pub record IsStorageLine (old new : PlainInput)
    (command : StorageCommand) (key : List ℕ) (flags : ℕ) (exptime : ℤ) (size : ℕ) (noreply : Bool) (line : ScriptLine) : Type 0 where
  pub block : List ℕ
  pub took : Took old.bytes new.bytes block
  pub dialect_is : new.dialect ≡ old.dialect
  pub size_is : (length block ≡ size + ending_size old.dialect (drop size block)) ⊎ ((length block < size + ending_size old.dialect (drop size block)) × AtEnd new.bytes)
  pub line_is : line ≡ storage_line_of old.dialect command key flags exptime size noreply block
  pub passes_is : new.passes ≡ is_passed old.dialect (is_ending old.dialect (drop size block))

-- the same, as the answer of a reader of lines: there is a line
abbrev pub IsStorageNext : PlainInput → PlainInput → StorageCommand → List ℕ → ℕ → ℤ → ℕ → Bool → Option ScriptLine → Type 0
IsStorageNext old new command key flags exptime size noreply None = ⊥
IsStorageNext old new command key flags exptime size noreply (Some line) = IsStorageLine old new command key flags exptime size noreply line
