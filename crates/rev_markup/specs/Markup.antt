-- The pieces of which a page is made, and what is written of them.
-- Rule of this project: what comes from outside stands escaped, whatever its bytes are.
use Rattle.std.specs.Prelude.{◌≡◌, List, [], ◌∷◌, ◌++◌, ℕ, decimal}
use Rattle.rev_markup.specs.declared.markup.Piece.{Piece}
use Rattle.rev_markup.specs.declared.markup.Piece.TheVariants.{Markup, Text, Bytes, Count, Plain, Tenths}
use Rattle.rev_markup.specs.Escape.{escaped, escaped_bytes}
use Rattle.rev_markup.specs.Numbers.{grouped, tenths}

-- what is written of a piece
abbrev pub piece_text : Piece → List ℕ
piece_text (Markup markup) = markup.now
piece_text (Text text) = escaped text.now
piece_text (Bytes bytes) = escaped_bytes bytes.now
piece_text (Count n) = grouped n
piece_text (Plain n) = decimal n
piece_text (Tenths n) = tenths n

-- what is written of pieces, one behind another
abbrev pub pieces_text : List Piece → List ℕ
pieces_text [] = []
pieces_text (piece ∷ pieces) = piece_text piece ++ pieces_text pieces

-- the piece is of these bytes from outside
abbrev pub IsOf : List ℕ → Piece → Type 0
IsOf bytes (Text text) = text.now ≡ bytes
IsOf bytes (Bytes raw) = raw.now ≡ bytes
IsOf bytes other = ⊥
