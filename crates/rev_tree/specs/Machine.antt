-- The machine of calls on rows: which play continues a run, how deep nodes nest, the way from the root, and the
-- distance.
-- Rule of this project: what each call of the tree does, said by rows alone.
use Rattle.std.specs.Prelude.{ℕ, ◌+◌, ◌-◌, ◌*◌, Bool, true, false, cond, eqb, List, [], ◌∷◌, ◌++◌, length, Option, Some, None}
use Rattle.std.proofs.Common.{suc, zero}
use Rattle.rev_tree.specs.Rows.{Row, row_of}

-- a row of a child of n that continues n's run
abbrev pub continues_from : ℕ → Option Row → Bool
continues_from n None = false
continues_from n (Some r) = cond (eqb r.parent n) r.continues false

-- some held child of n continues n's run
abbrev pub is_continued : List (Option Row) → ℕ → Bool
is_continued [] n = false
is_continued (q ∷ qs) n = cond (continues_from n q) true (is_continued qs n)

-- a count by a row, 0 where there is none
abbrev pub count_from : Option Row → (Row → ℕ) → ℕ
count_from None f = 0
count_from (Some r) f = f r

-- the nesting of n, looked for at most so many nodes up
abbrev pub nesting_within : ℕ → List (Option Row) → ℕ → ℕ
nesting_within zero rows n = 0
nesting_within (suc k) rows n = count_from (row_of rows n) (λ r. nesting_within k rows r.parent + cond r.continues 0 1)

-- how many of n and the nodes above it, but for the root, fork off
unfoldable pub nesting : List (Option Row) → ℕ → ℕ
nesting rows n = nesting_within n rows n

-- the nesting of a node that is played at n
abbrev pub nesting_below : List (Option Row) → ℕ → ℕ
nesting_below rows n = nesting rows n + cond (is_continued rows n) 1 0

-- a list by a row, empty where there is none
abbrev pub nodes_from : Option Row → (Row → List ℕ) → List ℕ
nodes_from None f = []
nodes_from (Some r) f = f r

-- the same, at most so many nodes up
abbrev pub lineage_within : ℕ → List (Option Row) → ℕ → List ℕ
lineage_within zero rows n = []
lineage_within (suc k) rows n = nodes_from (row_of rows n) (λ r. lineage_within k rows r.parent ++ n ∷ [])

-- the nodes from the root, which is left out, to n
unfoldable pub lineage : List (Option Row) → ℕ → List ℕ
lineage rows n = lineage_within n rows n

-- the longest list that two lists begin with
abbrev pub common : List ℕ → List ℕ → List ℕ
common [] ys = []
common (x ∷ xs) [] = []
common (x ∷ xs) (y ∷ ys) = cond (eqb x y) (x ∷ common xs ys) []

-- how many nodes lie between m and n
abbrev pub distance : List (Option Row) → ℕ → ℕ → ℕ
distance rows m n = length (lineage rows m) + length (lineage rows n) - 2 * length (common (lineage rows m) (lineage rows n))

-- the held children of n by rising number, in the rows behind the first k
abbrev pub is_child : ℕ → Option Row → Bool
is_child n None = false
is_child n (Some r) = eqb r.parent n

-- in the rows behind the first k, the children of n
abbrev pub children_from : ℕ → ℕ → List (Option Row) → List ℕ
children_from n k [] = []
children_from n k (q ∷ qs) = cond (is_child n q) (suc k ∷ children_from n (suc k) qs) (children_from n (suc k) qs)

-- the held children of n by rising number
abbrev pub children : List (Option Row) → ℕ → List ℕ
children rows n = children_from n 0 rows
