-- Numbers in a script: decimal digits, with any number of zeros in front and no sign.
-- Rule of memcached: its numbers of 32 and 64 bits.
-- Rule of this project: factors with at most three digits behind the point.
use Rattle.std.specs.Prelude.{ℕ, ◌+◌, ◌-◌, ◌*◌, ◌^◌, Bool, true, false, ◌&&◌, nat_le, nat_lt, if◌then◌else◌, List, [], ◌∷◌, length, Option, None, Some, ℤ, pos, ◌-ℤ◌, ◌==◌, bit_or, slice_index_or}
use Rattle.std.specs.List.{list_all, fold}

-- `0` to `9`
abbrev pub is_digit : ℕ → Bool
is_digit b = nat_le 48 b && nat_le b 57

-- what the digits stand for: each by its place
abbrev pub value : List ℕ → ℕ
value [] = 0
value (d ∷ ds) = (d - 48) * 10 ^ length ds + value ds

-- at least one byte, and each a digit
abbrev pub is_number : List ℕ → Bool
is_number word = nat_lt 0 (length word) && list_all is_digit word

-- the number that the word is, where it is one and at most the limit
unfoldable pub number : ℕ → List ℕ → Option ℕ
number limit word = if is_number word && nat_le (value word) limit then Some (value word) else None

-- a number of 32 bits without a sign
abbrev pub number_u32 : List ℕ → Option ℕ
number_u32 word = number 4294967295 word

abbrev pub negated : Option ℕ → Option ℤ
negated None = None
negated (Some n) = Some (pos 0 -ℤ pos n)

abbrev pub plain : Option ℕ → Option ℤ
plain None = None
plain (Some n) = Some (pos n)

-- a number of 32 bits, with a `-` in front or without a sign; `-0` is 0, and a `-` alone is none
unfoldable pub signed : List ℕ → Option ℤ
signed [] = None
signed (b ∷ bs) = if nat_le 45 b && nat_le b 45 then negated (number 2147483648 bs) else plain (number 2147483647 (b ∷ bs))

-- ---- factors: digits, or digits, a point and one to three digits

-- the bytes before the first such byte, or all of them
abbrev pub until : ℕ → List ℕ → List ℕ
until b [] = []
until b (x ∷ xs) = if x == b then [] else x ∷ until b xs

-- the bytes behind it, or none
abbrev pub past : ℕ → List ℕ → List ℕ
past b [] = []
past b (x ∷ xs) = if x == b then xs else past b xs

-- whether the byte is there
abbrev pub has : ℕ → List ℕ → Bool
has b [] = false
has b (x ∷ xs) = if x == b then true else has b xs

-- the form of a factor, whatever its range (46 is the point)
abbrev pub is_factor : List ℕ → Bool
is_factor w =
    if has 46 w then is_number (until 46 w) && is_number (past 46 w) && nat_le (length (past 46 w)) 3
    else is_number w

-- a digit behind the point, 0 where there is none
abbrev pub digit : List ℕ → ℕ → ℕ
digit w i = slice_index_or w i 48 - 48

-- what a factor stands for, in thousandths
abbrev pub thousandths : List ℕ → ℕ
thousandths w =
    value (until 46 w) * 1000 + digit (past 46 w) 0 * 100 + digit (past 46 w) 1 * 10 + digit (past 46 w) 2

-- the factor in thousandths, where it is one from 0.001 to 1000
unfoldable pub factor : List ℕ → Option ℕ
factor w =
    if is_factor w && nat_lt 0 (thousandths w) && nat_le (thousandths w) 1000000 then Some (thousandths w) else None

-- ---- the classes of a crawler's list

-- the class that a word names, or 0 where it is no number of at most 63
abbrev pub id_or_0 : Option ℕ → ℕ
id_or_0 None = 0
id_or_0 (Some n) = n

-- the set with the word's bit
abbrev pub with_id : ℕ → List ℕ → ℕ
with_id set w = bit_or set (2 ^ id_or_0 (number 63 w))

-- the classes as a set of bits; bit 0 stands for each word that names none
abbrev pub ids : List (List ℕ) → ℕ
ids ws = fold with_id 0 ws
