-- Where nodes stand, by their numbers, as it was noted when they were played.
-- Rule of this project: the notes by which a node is found without a search.
use Rattle.std.specs.Prelude.{ℕ, ◌-◌, Bool, cond, List, [], ◌∷◌, ◌++◌, length, take, reverse, get_or, slice_get, Option, None, Some}
use Rattle.std.proofs.Common.{suc, zero}
use Rattle.rev_tree.specs.declared.junction.Junction.{Junction}
use Rattle.rev_tree.specs.declared.index.Leaving.{Leaving}

-- the branch of each node by its number, and where each branch but the base branch leaves another
pub record PlainIndex : Type 0 where
  pub branches : List ℕ
  pub leavings : List Leaving

-- the branch of node n: the base branch, which is 0, is that of the root and of a number that was not noted
abbrev pub branch_of : PlainIndex → ℕ → ℕ
branch_of i zero = 0
branch_of i (suc n) = get_or i.branches n 0

-- where branch b leaves another: the base branch leaves none
abbrev pub leaving_of : PlainIndex → ℕ → Option Leaving
leaving_of i zero = None
leaving_of i (suc b) = slice_get i.leavings b

-- a junction and what follows it, nothing where a branch leaves none
abbrev pub then_up : Option Leaving → (ℕ → List Junction) → List Junction
then_up None f = []
then_up (Some l) f = l.junction ∷ f l.branch

-- the junctions from branch b up, at most so many
abbrev pub ups : ℕ → PlainIndex → ℕ → List Junction
ups zero i b = []
ups (suc k) i b = then_up (leaving_of i b) (ups k i)

-- the way to the branch of node n
unfoldable pub way_to : PlainIndex → ℕ → List Junction
way_to i n = reverse (ups 64 i (branch_of i n))

-- the branch of the next node, which is played below node p, at the end of its run or where a new branch leaves it
abbrev pub next_branch : PlainIndex → ℕ → Option Junction → ℕ
next_branch i p None = branch_of i p
next_branch i p (Some j) = suc (length i.leavings)

-- where the next node leaves its parent's run, if it does
abbrev pub next_leaving : PlainIndex → ℕ → Option Junction → List Leaving
next_leaving i p None = []
next_leaving i p (Some j) = record { branch = branch_of i p; junction = j } ∷ []

-- with the next node
abbrev pub noted : PlainIndex → ℕ → Option Junction → PlainIndex
noted i p j = record { branches = i.branches ++ next_branch i p j ∷ []; leavings = i.leavings ++ next_leaving i p j }

-- without the last node, which had a branch of its own where it left its parent's run
abbrev pub forgotten : PlainIndex → Bool → PlainIndex
forgotten i forked = record { branches = take (length i.branches - 1) i.branches; leavings = cond forked (take (length i.leavings - 1) i.leavings) i.leavings }
