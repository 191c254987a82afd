-- What `lrudb open` tells of traces before a session is answered. Rule of this project: where the tree has no room for a
-- step, and where the session stands.
use Rattle.std.specs.Prelude.{ℕ, List, [], ◌++◌, Option, None, Some, codes, decimal, string_bytes}
use Rattle.std.specs.Io.KnownBytes.{Keeps}
use Rattle.rev_messages.specs.Opened.{with_opened}
use Rattle.rev_messages.specs.Telling.{Told}
use Rattle.rev_messages.specs.declared.opened.OpenedAt.{OpenedAt}
use Rattle.rev_program.specs.declared.opening.Full.{Full}

-- a text with what is told of traces that fill the tree behind it
abbrev pub with_full : List ℕ → Option Full → List ℕ
with_full old None = old
with_full old (Some full) =
    ((((old ++ codes "lrudb: ") ++ string_bytes full.file) ++ codes ": line ") ++ decimal full.line)
    ++ codes ": no room in the tree for this step and what follows; --start FILE plays any number of steps before the traces\n"

-- and with what is told of where a session stands, of which node 0 is not in front of the first step
abbrev pub with_place : List ℕ → Option OpenedAt → List ℕ
with_place old None = old
with_place old (Some at) = with_opened (old ++ codes "lrudb: ") at ++ codes "\n"

-- both, where there is something to tell
abbrev pub notes_text : Option Full → Option OpenedAt → List ℕ
notes_text full at = with_place (with_full [] full) at

-- that was told, or nothing where there was room for all and node 0 is in front of the first step
abbrev pub IsNoted : Option (List ℕ) → Option (List ℕ) → ℕ → ℕ → Option Full → Option OpenedAt → Type 0
IsNoted old new before after None None = Keeps old new
IsNoted old new before after None (Some at) = Told old new before after (notes_text None (Some at))
IsNoted old new before after (Some full) at = Told old new before after (notes_text (Some full) at)
