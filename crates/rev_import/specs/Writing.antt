-- What an import writes: lines of a script, one behind another, each whole with its data block.
-- Rule of this project: each line that is written is read as exactly one step.
use Rattle.std.specs.Prelude.{◌≡◌, ℕ, ◌+◌, ◌/◌, ◌%◌, Bool, true, ◌&&◌, nat_lt, List, ◌∷◌, ◌++◌, length, map, codes}
use Rattle.std.specs.Fmt.{decimal}
use Rattle.std.specs.List.{list_all, concat, filter}
use Rattle.std.specs.Prelude.{All, Some, false, []}
use Rattle.rev_model.specs.declared.Queue.{Queue}
use Rattle.rev_model.specs.declared.Queue.TheVariants.{Hot, Warm, Cold, Temp}
use Rattle.rev_script.specs.declared.command.StorageCommand.{StorageCommand}
use Rattle.rev_script.specs.declared.command.StorageCommand.TheVariants.{Store, Join}
use Rattle.rev_requests.specs.declared.clients.JoinSide.TheVariants as sides
use Rattle.rev_requests.specs.declared.clients.StoreVerb.TheVariants as verbs
use Rattle.rev_script.specs.declared.dialect.Dialect.TheVariants.{CrLf}
use Rattle.rev_model.specs.Actor.{Step}
use Rattle.rev_script.specs.Script.{ScriptLine, Cut, cuts, ActorLine, TuneLine}
use Rattle.rev_script.specs.Steps.{steps_of}
use Rattle.rev_import.specs.declared.writing.Storing.{Storing}
use Rattle.rev_import.specs.declared.writing.Storing.TheVariants.{Set, Add, Replace, Append, Prepend}

-- a line that lies whole in the bytes
abbrev pub whole_line : ScriptLine → Cut
whole_line line = record { line = line; whole = true }

-- the bytes are this line, whole, whatever follows them
pub record IsLine (text : List ℕ) (line : ScriptLine) : Type 0 where
  pub cut : (more : List ℕ) → cuts CrLf (text ++ more) ≡ whole_line line ∷ cuts CrLf more

-- the bytes are these lines, each whole, whatever follows them
pub record AreLines (text : List ℕ) (ls : List ScriptLine) : Type 0 where
  pub cut : (more : List ℕ) → cuts CrLf (text ++ more) ≡ map whole_line ls ++ cuts CrLf more

-- behind what was written before stand these lines
pub record Adds (old new : List ℕ) (ls : List ScriptLine) : Type 0 where
  pub text : List ℕ
  pub behind : new ≡ old ++ text
  pub lines_are : AreLines text ls

-- a line of a client; the others are of the actors, of the clock and of the settings
abbrev pub is_client : ScriptLine → Bool
is_client (ActorLine c) = false
is_client (TuneLine t) = false
is_client line = true

-- a line that makes exactly one step
abbrev pub IsStep : ScriptLine → Type 0
IsStep line = (step : Step) × (steps_of line ≡ Some (step ∷ []))

-- behind what was written before stand whole lines, each of which makes one step, and these are the ones of clients
pub record Writes (old new : List ℕ) (clients : List ScriptLine) : Type 0 where
  pub lines : List ScriptLine
  pub adds : Adds old new lines
  pub steps : All IsStep lines
  pub of_clients : filter is_client lines ≡ clients

-- a word of a line: at least one byte, and none that ends a word or a line
abbrev pub is_word : List ℕ → Bool
is_word w = nat_lt 0 (length w) && list_all (nat_lt 32) w

-- a space in front of each word
abbrev pub spaced : List (List ℕ) → List ℕ
spaced ws = concat (map (λ w. 32 ∷ w) ws)

-- the words of a line, parted by single spaces, and CR LF
abbrev pub line_text : List ℕ → List (List ℕ) → List ℕ
line_text first rest = first ++ spaced rest ++ codes "\r\n"

-- the three digits behind the point of a factor of so many thousandths
abbrev pub behind_point : ℕ → List ℕ
behind_point n = (48 + (n / 100) % 10) ∷ (48 + (n / 10) % 10) ∷ (48 + n % 10) ∷ []

-- a factor of so many thousandths: digits, a point (46) and three digits
abbrev pub factor_text : ℕ → List ℕ
factor_text n = decimal (n / 1000) ++ 46 ∷ behind_point n

-- the storage command, and its name
abbrev pub storage : Storing → StorageCommand
storage Set = Store verbs.Set
storage Add = Store verbs.Add
storage Replace = Store verbs.Replace
storage Append = Join sides.Append
storage Prepend = Join sides.Prepend

abbrev pub storage_name : Storing → List ℕ
storage_name Set = codes "set"
storage_name Add = codes "add"
storage_name Replace = codes "replace"
storage_name Append = codes "append"
storage_name Prepend = codes "prepend"

-- how a line names a queue
abbrev pub queue_name : Queue → List ℕ
queue_name Hot = codes "hot"
queue_name Warm = codes "warm"
queue_name Cold = codes "cold"
queue_name Temp = codes "temp"
