-- The pieces of which a text is made, and what is written of them.
-- Rule of this project: a moment stands behind an `@`, and what is missing is a `-`.
use Rattle.std.specs.Prelude.{ℕ, ℤ, List, [], ◌∷◌, ◌++◌, Option, Some, None, decimal}
use Rattle.std.specs.Fmt.{signed_decimal}
use Rattle.rev_pushers.specs.Times.{time_text, tenths_text}
use Rattle.rev_pushers.specs.declared.pieces.Piece.{Piece}
use Rattle.rev_pushers.specs.declared.pieces.Piece.TheVariants.{Text, Key, Number, Connection, Class, Time, Seconds}

-- a connection, and a class
abbrev pub connection_text : Option ℤ → List ℕ
connection_text None = 45 ∷ []
connection_text (Some n) = signed_decimal n

abbrev pub class_text : Option ℕ → List ℕ
class_text None = 45 ∷ []
class_text (Some n) = decimal n

-- what is written of a piece
abbrev pub piece_text : Piece → List ℕ
piece_text (Text text) = text.now
piece_text (Key bytes) = bytes.now
piece_text (Number n) = decimal n
piece_text (Connection n) = connection_text n
piece_text (Class n) = class_text n
piece_text (Time t) = 64 ∷ time_text t
piece_text (Seconds n) = tenths_text n

-- what is written of pieces, one behind another
abbrev pub pieces_text : List Piece → List ℕ
pieces_text [] = []
pieces_text (piece ∷ pieces) = piece_text piece ++ pieces_text pieces
