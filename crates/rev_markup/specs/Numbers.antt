-- How numbers are written.
-- Rule of this project: groups of three digits with a narrow space between them; tenths behind a point, where there are
-- any.
use Rattle.std.specs.Prelude.{ℕ, zero, suc, ◌/◌, ◌%◌, cond, nat_eq, nat_lt, List, [], ◌∷◌, ◌++◌, length, codes, decimal}

-- a narrow space at which no line breaks, U+202F, between two groups
abbrev pub narrow_space : List ℕ
narrow_space = 226 ∷ 128 ∷ 175 ∷ []

-- what stands behind a digit with so many digits behind it
abbrev pub gap : ℕ → List ℕ
gap zero = []
gap (suc n) = cond (nat_eq (suc n % 3) 0) narrow_space []

-- digits in groups of three
abbrev pub spaced : List ℕ → List ℕ
spaced [] = []
spaced (d ∷ ds) = d ∷ gap (length ds) ++ spaced ds

-- a number in groups of three digits
abbrev pub grouped : ℕ → List ℕ
grouped n = spaced (decimal n)

-- so many tenths
abbrev pub tenths : ℕ → List ℕ
tenths n = decimal (n / 10) ++ cond (nat_eq (n % 10) 0) [] (codes "." ++ decimal (n % 10))

-- a number with at least two digits
abbrev pub two : ℕ → List ℕ
two n = cond (nat_lt n 10) (codes "0") [] ++ decimal n
