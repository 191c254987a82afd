-- How a text stands in markup, so that none of its bytes is read as markup.
-- Rule of this project: five bytes are written as the entities that XML and HTML share; of bytes that are no text,
-- those that do not print are written as their hexadecimal digits behind a backslash and an x.
use Rattle.std.specs.Prelude.{ℕ, ◌+◌, ◌/◌, ◌%◌, Bool, true, cond, nat_eq, nat_lt, not, ◌||◌, ◌&&◌, List, [], ◌∷◌, ◌++◌, codes}

-- what stands for a byte
abbrev pub escape : ℕ → List ℕ
escape b = cond (nat_eq b 38) (codes "&amp;") (cond (nat_eq b 60) (codes "&lt;") (cond (nat_eq b 62) (codes "&gt;") (cond (nat_eq b 34) (codes "&quot;") (cond (nat_eq b 39) (codes "&#39;") (b ∷ [])))))

-- what stands for a text
abbrev pub escaped : List ℕ → List ℕ
escaped [] = []
escaped (b ∷ bs) = escape b ++ escaped bs

-- a hexadecimal digit
abbrev pub hex_digit : ℕ → ℕ
hex_digit n = cond (nat_lt n 10) (48 + n) (87 + n)

-- a byte that does not print, or a space
abbrev pub is_unprinted : ℕ → Bool
is_unprinted b = nat_lt b 33 || nat_lt 126 b

-- what stands for a byte of what is no text
abbrev pub escape_byte : ℕ → List ℕ
escape_byte b = cond (is_unprinted b) (92 ∷ 120 ∷ hex_digit (b / 16) ∷ hex_digit (b % 16) ∷ []) (escape b)

-- what stands for bytes that are no text
abbrev pub escaped_bytes : List ℕ → List ℕ
escaped_bytes [] = []
escaped_bytes (b ∷ bs) = escape_byte b ++ escaped_bytes bs

-- a byte with which markup or the end of an attribute begins: < > " or '
abbrev pub is_markup : ℕ → Bool
is_markup b = nat_eq b 60 || (nat_eq b 62 || (nat_eq b 34 || nat_eq b 39))

-- no byte of a text is read as markup
abbrev pub is_safe : List ℕ → Bool
is_safe [] = true
is_safe (b ∷ bs) = not (is_markup b) && is_safe bs
