-- Where a play forks.
-- Rule of this project: a play at a run's end continues it, and any other begins a branch.
use Rattle.std.specs.Prelude.{ℕ, List, [], ◌∷◌, ◌++◌, cond, eqb, length, Option, Some, None}
use Rattle.rev_tree.specs.Tree.{PlainBranch, count}
use Rattle.rev_tree.specs.declared.junction.Junction.{Junction}

-- where a node that is played behind the first k nodes of a run leaves it, as its last fork: none at the run's end
abbrev pub next_fork : PlainBranch → ℕ → Option Junction
next_fork b k = cond (eqb k (length b.run)) None (Some (record { taken = k; fork = count b.forks }))

-- the way w, and on into a fork if there is one
abbrev pub way_into : List Junction → Option Junction → List Junction
way_into w None = w
way_into w (Some p) = w ++ p ∷ []
