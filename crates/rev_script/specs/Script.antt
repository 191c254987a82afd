-- The lines of a script, on the whole list of its bytes: each ends at LF or at the end, a storage line with its
-- data block.
-- A dialect says what has to stand behind the data of a block. All else is the same in each.
-- Rule of memcached: lines and data blocks (protocol.txt).
-- Rule of this project: limits of a line by its first word, and the dialect for people and editors.
use Rattle.std.specs.Prelude.{◌≡◌, ℕ, ℤ, zero, suc, ◌+◌, ◌==◌, Bool, true, false, ◌&&◌, ◌||◌, not, nat_le, nat_lt, if◌then◌else◌, List, [], ◌∷◌, ◌++◌, length, take, drop, map, count_by}
use Rattle.std.specs.Str.{bytes_eq}
use Rattle.std.specs.Io.BufRead.{strip_last}
use Rattle.rev_model.specs.Client.{Payload, Bytes, Skipped}
use Rattle.rev_script.specs.Words.{words, word}
use Rattle.rev_script.specs.Commands.{asked}
use Rattle.rev_script.specs.declared.dialect.Dialect.{Dialect}
use Rattle.rev_script.specs.declared.dialect.Dialect.TheVariants.{CrLf, AnyFeed}
use Rattle.rev_script.specs.declared.command.BadAnswer.{BadAnswer}
use Rattle.rev_script.specs.declared.command.BadAnswer.TheVariants.{BadChunk}
use Rattle.rev_requests.specs.Limits.{PlainTune}
use Rattle.rev_requests.specs.declared.clients.KeyCommand.{KeyCommand}
use Rattle.rev_requests.specs.declared.actors.ActorStep.{ActorStep}
use Rattle.rev_script.specs.declared.command.StorageCommand.{StorageCommand}
use Rattle.rev_script.specs.declared.command.DebugCommand.{DebugCommand}
use Rattle.rev_script.specs.declared.command.KeyQuery.{KeyQuery}
use Rattle.rev_script.specs.declared.command.BookmarkCommand.{BookmarkCommand}
use Rattle.rev_script.specs.declared.command.Command.{Command}
use Rattle.rev_script.specs.declared.command.Command.TheVariants.{Storage, Retrieval, Update, FlushAll, Actor, Tune, Debug, Query, Bookmark, Bad}

-- ---- lines of bytes

-- the bytes before the first LF, or all
abbrev pub before_lf : List ℕ → List ℕ
before_lf [] = []
before_lf (x ∷ xs) = if x == 10 then [] else x ∷ before_lf xs

-- the bytes behind the first LF, or none
abbrev pub after_lf : List ℕ → List ℕ
after_lf [] = []
after_lf (x ∷ xs) = if x == 10 then xs else after_lf xs

-- whether an LF is there
abbrev pub has_lf : List ℕ → Bool
has_lf [] = false
has_lf (x ∷ xs) = if x == 10 then true else has_lf xs

-- ---- a script's lines

-- a line with all that belongs to it
pub data ScriptLine : Type 0 where
  -- key, flags, expiry time, data, noreply
  StorageLine : StorageCommand → List ℕ → ℕ → ℤ → Payload → Bool → ScriptLine
  -- keys, and whether their cas numbers are asked for
  RetrievalLine : List (List ℕ) → Bool → ScriptLine
  -- key, noreply
  UpdateLine : KeyCommand → List ℕ → Bool → ScriptLine
  -- delay, noreply
  FlushLine : ℤ → Bool → ScriptLine
  ActorLine : ActorStep → ScriptLine
  TuneLine : PlainTune → ScriptLine
  DebugLine : DebugCommand → ScriptLine
  -- key
  QueryLine : KeyQuery → List ℕ → ScriptLine
  -- name
  BookmarkLine : BookmarkCommand → List ℕ → ScriptLine
  BadLine : BadAnswer → ScriptLine

-- ---- data blocks

-- what ends a block: CR LF, or in the other dialect LF too
abbrev pub is_ending : Dialect → List ℕ → Bool
is_ending CrLf bytes = bytes_eq bytes (13 ∷ 10 ∷ [])
is_ending AnyFeed bytes = bytes_eq bytes (10 ∷ []) || bytes_eq bytes (13 ∷ 10 ∷ [])

-- how many of the bytes behind the data tell whether the block ends there: two; in the other dialect one,
-- and two where the first is a CR
abbrev pub ending_size : Dialect → List ℕ → ℕ
ending_size CrLf bytes = 2
ending_size AnyFeed [] = 1
ending_size AnyFeed (b ∷ bs) = if b == 13 then 2 else 1

-- the bytes of a data block with its ending, where these bytes stand behind its line
abbrev pub block_size : Dialect → Command → List ℕ → ℕ
block_size d (Storage c flags exptime size noreply) rest = size + ending_size d (drop size rest)
block_size d _ rest = 0

-- whether the line that a bad block ends in is passed over
abbrev pub is_passed : Dialect → Bool → Bool
is_passed CrLf sound = false
is_passed AnyFeed sound = not sound

-- the same, by the block
abbrev pub passes : Dialect → Command → List ℕ → Bool
passes d (Storage c flags exptime size noreply) block = is_passed d (is_ending d (drop size block))
passes d _ block = false

-- where lines go on: here, or behind the rest of a line that is passed over
abbrev pub onwards : Bool → List ℕ → List ℕ
onwards pass bytes = if pass then after_lf bytes else bytes

-- data of more than 1048576 bytes are not kept
abbrev pub payload_of : ℕ → List ℕ → Payload
payload_of size block = if nat_lt 1048576 size then Skipped size else Bytes (take size block)

-- a storage line, with the data block behind it, or what there is of it
abbrev pub storage_line_of : Dialect → StorageCommand → List ℕ → ℕ → ℤ → ℕ → Bool → List ℕ → ScriptLine
storage_line_of d c key flags exptime size noreply block =
    if is_ending d (drop size block) then StorageLine c key flags exptime (payload_of size block) noreply
    else BadLine BadChunk

-- a line, from its words and the data block behind it
abbrev pub line_of : Dialect → Command → List (List ℕ) → List ℕ → ScriptLine
line_of d (Storage c flags exptime size noreply) ws block =
    storage_line_of d c (word ws 1) flags exptime size noreply block
line_of d (Retrieval with_cas) ws block = RetrievalLine (drop 1 ws) with_cas
line_of d (Update c noreply) ws block = UpdateLine c (word ws 1) noreply
line_of d (FlushAll delay noreply) ws block = FlushLine delay noreply
line_of d (Actor a) ws block = ActorLine a
line_of d (Tune t) ws block = TuneLine t
line_of d (Debug c) ws block = DebugLine c
line_of d (Query q) ws block = QueryLine q (word ws 1)
line_of d (Bookmark c) ws block = BookmarkLine c (word ws 1)
line_of d (Bad a) ws block = BadLine a

-- a line, and whether it lies whole in the bytes: with its LF, and with all of its data block that it takes
pub record Cut : Type 0 where
  pub line : ScriptLine
  pub whole : Bool

abbrev pub cut_of : Dialect → Command → List (List ℕ) → List ℕ → Bool → Cut
cut_of d c ws rest ended = record {
  line = line_of d c ws (take (block_size d c rest) rest);
  whole = ended && nat_le (block_size d c rest) (length rest);
}

-- what stands behind a line and its data block
abbrev pub behind_block : Dialect → Command → List ℕ → List ℕ
behind_block d c rest = onwards (passes d c (take (block_size d c rest) rest)) (drop (block_size d c rest) rest)

-- a line's bytes without LF and one CR before it
abbrev pub body : List ℕ → List ℕ
body bytes = strip_last 13 (before_lf bytes)

-- the first line of some bytes
abbrev pub first : Dialect → List ℕ → Cut
first d bytes = cut_of d (asked (body bytes)) (words (body bytes)) (after_lf bytes) (has_lf bytes)

-- what stands behind it
abbrev pub behind : Dialect → List ℕ → List ℕ
behind d bytes = behind_block d (asked (body bytes)) (after_lf bytes)

-- the lines of the bytes, at most so many
abbrev pub cuts_up_to : Dialect → ℕ → List ℕ → List Cut
cuts_up_to d zero bytes = []
cuts_up_to d (suc n) [] = []
cuts_up_to d (suc n) (b ∷ bs) = first d (b ∷ bs) ∷ cuts_up_to d n (behind d (b ∷ bs))

-- each line takes a byte, so there are no more lines than bytes
unfoldable pub cuts : Dialect → List ℕ → List Cut
cuts d bytes = cuts_up_to d (length bytes) bytes

-- the lines of a script
unfoldable pub lines : Dialect → List ℕ → List ScriptLine
lines d bytes = map (λ c. c.line) (cuts d bytes)

-- how many of them lie whole in the bytes
unfoldable pub whole_lines : Dialect → List ℕ → ℕ
whole_lines d bytes = count_by (λ c. c.whole) (cuts d bytes)

-- ---- the next line

-- the bytes are this line, whole, whatever follows them; before and behind it the rest of a line may have to be passed
-- over
pub record IsWhole (d : Dialect) (before after : Bool) (taken : List ℕ) (line : ScriptLine) : Type 0 where
  pub cut : (more : List ℕ) → cuts d (onwards before (taken ++ more)) ≡ record { line = line; whole = true } ∷ cuts d (onwards after more)

-- the bytes are this line, cut off by their end
pub record IsLast (d : Dialect) (before : Bool) (taken : List ℕ) (line : ScriptLine) : Type 0 where
  pub cut : cuts d (onwards before taken) ≡ record { line = line; whole = false } ∷ []
