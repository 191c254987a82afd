-- What an index says of a tree: it leads to each node that stands there.
-- Rule of this project: when those notes are right.
use Rattle.std.specs.Prelude.{◌≡◌, ℕ, ◌≤◌, List, [], ◌∷◌, ◌++◌, length, Some, None, slice_get}
use Rattle.rev_tree.specs.Tree.{PlainBranch}
use Rattle.rev_tree.specs.Rows.{number_at}
use Rattle.rev_tree.specs.Positions.{Proper}
use Rattle.rev_tree.specs.Paths.{IsPath}
use Rattle.rev_tree.specs.Index.{PlainIndex, branch_of, way_to, noted}
use Rattle.rev_tree.specs.declared.junction.Junction.{Junction}
use Rattle.rev_tree.specs.declared.index.Leaving.{Leaving}

-- the way to the number of each node that stands in the tree is the one at whose end it stands
unfoldable pub LeadsTo : PlainIndex → PlainBranch → Type 0
LeadsTo i b = (w : List Junction) (k : ℕ) → IsPath b w k → Proper w k → way_to i (number_at b w k) ≡ w

-- each branch that the index names is the base branch or one that it has
pub record IsClosed (i : PlainIndex) : Type 0 where
  pub named : (n : ℕ) → branch_of i n ≤ length i.leavings
  pub left : (k : ℕ) (l : Leaving) → slice_get i.leavings k ≡ Some l → l.branch ≤ length i.leavings

-- the index of a session: it has the numbers that were given out, and leads to each node that stands
pub record IsIndex (i : PlainIndex) (b : PlainBranch) (issued : ℕ) : Type 0 where
  pub long : length i.branches ≡ issued
  pub closed : IsClosed i
  pub leads : LeadsTo i b

-- the next node was noted below node n, which stands at the end of the way w: it stands at the end of w, too, or of a
-- branch that leaves there
pub data Notes (i : PlainIndex) (n : ℕ) (w : List Junction) : PlainIndex → List Junction → Type 0 where
  noted_along : Notes i n w (noted i n None) w
  noted_off : (p : Junction) → Notes i n w (noted i n (Some p)) (w ++ p ∷ [])
