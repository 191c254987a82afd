-- The children of the node at a position of a branch, by rising number.
-- Rule of this project: their order, by which `:forward` names one.
use Rattle.std.specs.Prelude.{ℕ, cond, eqb, ltb, List, [], ◌∷◌, Option, Some, None}
use Rattle.std.proofs.Common.{suc, zero}
use Rattle.rev_tree.specs.Tree.{PlainNode, PlainBranch, Forks, bare, fork}
use Rattle.rev_tree.specs.Order.{head_number}

-- a number, if there is one, in front of a list
abbrev pub before_rest : Option ℕ → List ℕ → List ℕ
before_rest None l = l
before_rest (Some n) l = n ∷ l

-- the first numbers of the forks that leave the run at k
abbrev pub firsts : ℕ → Forks → List ℕ
firsts k bare = []
firsts k (fork f r i m) = cond (eqb f k) (before_rest (head_number r) (firsts k m)) (firsts k m)

-- a number put where it belongs in a rising list
abbrev pub put_in : Option ℕ → List ℕ → List ℕ
put_in None l = l
put_in (Some a) [] = a ∷ []
put_in (Some a) (n ∷ l) = cond (ltb a n) (a ∷ n ∷ l) (n ∷ put_in (Some a) l)

-- the number of the node behind the first k of a run, if there is one
abbrev pub next_number : ℕ → List PlainNode → Option ℕ
next_number k [] = None
next_number zero (e ∷ es) = Some e.number
next_number (suc k) (e ∷ es) = next_number k es

-- the children of the node behind the first k of the run: the run's next node, and the first of each fork that leaves
-- there
abbrev pub children_at : PlainBranch → ℕ → List ℕ
children_at b k = put_in (next_number k b.run) (firsts k b.forks)
