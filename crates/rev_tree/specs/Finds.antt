-- Where a numbered node stands, and what order the numbers of a tree have.
-- Rule of this project: a node stands at one position, and is found there by its number.
use Rattle.std.specs.Prelude.{◌≡◌, ℕ, ◌<◌, Bool, true, is_some, List, ◌++◌, get_or, Option, None}
use Rattle.std.proofs.Common.{suc, zero}
use Rattle.rev_tree.specs.Tree.{PlainBranch}
use Rattle.rev_tree.specs.Ways.{reach}
use Rattle.rev_tree.specs.Rows.{Row, number_after, start_at, number_at, find_in}
use Rattle.rev_tree.specs.Positions.{Proper}
use Rattle.rev_tree.specs.Paths.{IsPath}
pub use Rattle.rev_tree.specs.Order.{RisesFrom, RisesRun, RisesForks, Rises, head_number, bar, IsFirst, Fitted}
use Rattle.rev_tree.specs.declared.junction.Junction.{Junction}

-- the root and each node whose row is not empty are held
abbrev pub is_held : List (Option Row) → ℕ → Bool
is_held rows zero = true
is_held rows (suc m) = is_some (get_or rows m None)

-- behind the way w, the way v leads on to the node n of the branch b
pub record Found (n : ℕ) (b : PlainBranch) (w v : List Junction) (at : ℕ) : Type 0 where
  pub more : List Junction
  pub way : v ≡ w ++ more
  pub path : IsPath b more at
  pub inside : 0 < at
  pub numbered : (p : ℕ) → number_after (start_at p b more) at (reach b more).run ≡ n

-- the node n stands at a position
pub record FoundAt (n : ℕ) (b : PlainBranch) (w : List Junction) (at : ℕ) : Type 0 where
  pub path : IsPath b w at
  pub proper : Proper w at
  pub numbered : number_at b w at ≡ n

-- no node of the branch has the number n
abbrev pub IsMissing : ℕ → PlainBranch → Type 0
IsMissing n b = (p : ℕ) (c : Bool) → find_in n p c b ≡ None

-- no node with the number n stands in the run at the end of a way
abbrev pub IsElsewhere : ℕ → PlainBranch → List Junction → Type 0
IsElsewhere n b w = (p at : ℕ) → 0 < at → IsPath b w at → number_after (start_at p b w) at (reach b w).run ≡ n → ⊥
