-- The chunk sizes of the slab classes.
-- Rule of memcached: sizes grow by a factor and are rounded up to 8 bytes; an item lies in the smallest class that
-- holds it.
-- Rule of this project: the growth goes by whole numbers, and the last class has the whole page as its chunk.
use Rattle.std.specs.Prelude.{ℕ, zero, suc, ◌+◌, ◌*◌, ◌/◌, Bool, cond, nat_le, List, [], ◌∷◌, Option, None, Some}
use Rattle.std.specs.Int.{next_multiple_of}

-- a chunk size is a multiple of 8 bytes
abbrev pub up8 : ℕ → ℕ
up8 n = next_multiple_of n 8

-- what the chunk sizes are rounded up from: 96 bytes, and from then on the size before it times the growth factor
-- num / den, rounded down
abbrev pub unrounded : (num den : ℕ) → ℕ → ℕ
unrounded num den zero = 96
unrounded num den (suc i) = up8 (unrounded num den i) * num / den

-- whether one more factor would take this size to a page or past it
abbrev pub ends : (page num den : ℕ) → ℕ → Bool
ends page num den i = nat_le (page * den) (unrounded num den i * num)

-- the sizes from the i-th on: each up to the first that ends the growth is rounded up, and in that one's place stands
-- the page size. No more than `most` sizes stand before the page size
abbrev pub sizes_from : (page num den : ℕ) → (most : ℕ) → ℕ → List ℕ
sizes_from page num den zero i = page ∷ []
sizes_from page num den (suc most) i = cond (ends page num den i) (page ∷ []) (up8 (unrounded num den i) ∷ sizes_from page num den most (i + 1))

-- the most classes that there may be
unfoldable pub most_classes : ℕ
most_classes = 62

-- the sizes of the classes from 1 on, or one size too many
abbrev pub sizes_of : (page num den : ℕ) → List ℕ
sizes_of page num den = sizes_from page num den most_classes 0

-- the smallest class, numbered from c, whose chunk holds n bytes
abbrev pub class_from : ℕ → List ℕ → ℕ → Option ℕ
class_from c [] n = None
class_from c (z ∷ zs) n = cond (nat_le n z) (Some c) (class_from (c + 1) zs n)
