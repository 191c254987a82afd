-- A store that stands at a position of a tree.
-- Rule of this project: the records above the current node point back, all others forward; a session is its root
-- state, its rows and its node.
use Rattle.std.specs.Prelude.{◌≡◌, ℕ, ◌+◌, ◌<◌, ◌≤◌, Bool, true, false, eqb, List, [], ◌∷◌, ◌++◌, length, map, Option, Some, None}
use Rattle.std.proofs.Common.{suc}
use Rattle.rev_tree.specs.Steps.{State, Step, Sound}
use Rattle.rev_tree.specs.Tree.{PlainNode, PlainBranch, Forks, bare, fork}
use Rattle.rev_tree.specs.Ways.{no_node}
use Rattle.rev_tree.specs.States.{Holds, state_at}
use Rattle.rev_tree.specs.Rows.{Row, RowsFall, Known, row_of, row, find_in, rows_of, number_at}
use Rattle.rev_tree.specs.Order.{Fitted}
use Rattle.rev_tree.specs.Paths.{IsPath}
use Rattle.rev_tree.specs.declared.junction.Junction.{Junction}

-- over the state root at its root, the tree stands at a position, and t is the state there
pub record Stands (root t : State) (b : PlainBranch) (way : List Junction) (here : ℕ) : Type 0 where
  pub holds : Holds root b way here
  pub now_at : t ≡ state_at root b way here

-- a node with its record wiped out
abbrev pub wiped : PlainNode → PlainNode
wiped e = record e { undo = no_node.undo }

-- forks with their records wiped out
abbrev pub erased_forks : Forks → Forks
erased_forks bare = bare
erased_forks (fork f r i m) = fork f (map wiped r) (erased_forks i) (erased_forks m)

-- a branch with its records wiped out
abbrev pub erased : PlainBranch → PlainBranch
erased b = record { from = b.from; run = map wiped b.run; forks = erased_forks b.forks }

-- two trees with the same nodes
pub record Same (b c : PlainBranch) : Type 0 where
  pub finds : (n : ℕ) → find_in n 0 true c ≡ find_in n 0 true b
  pub known : (rows : List (Option Row)) → Known rows 0 true b → Known rows 0 true c
  pub shape : erased c ≡ erased b

-- one position is just below another
pub data Below : List Junction → ℕ → List Junction → ℕ → Type 0 where
  along : {w : List Junction} {k : ℕ} → Below w k w (suc k)
  fork_off : {w : List Junction} (p : Junction) → Below w p.taken (w ++ p ∷ []) 1

-- behind the first place, each run is entered
abbrev pub Inner : List Junction → ℕ → Type 0
Inner [] here = 0 < here
Inner (p ∷ ps) here = (0 < p.taken) × Inner ps here

-- a position in which each run but the first is entered
abbrev pub Proper : List Junction → ℕ → Type 0
Proper [] here = Unit {0}
Proper (p ∷ ps) here = Inner ps here

-- from the tree b, the store u now stands in the tree c, which has the same nodes, at a position of it
pub record Moved (root : State) (b : PlainBranch) (u : State) (c : PlainBranch) (v : List Junction) (k : ℕ) : Type 0 where
  pub stands : Stands root u c v k
  pub same : Same b c
  pub proper : Proper v k

-- from a position of the tree b, a node was played below it: the store u stands at it in the tree c
pub record Grown (root : State) (b : PlainBranch) (w : List Junction) (k : ℕ) (u : State) (c : PlainBranch) (v : List Junction) (j number : ℕ) (d : Step) (goes_on : Bool) : Type 0 where
  pub stands : Stands root u c v j
  pub proper : Proper v j
  pub below : Below w k v j
  pub numbered : number_at c v j ≡ number
  pub stays : (x : List Junction) (i : ℕ) → IsPath b x i → IsPath c x i × (number_at c x i ≡ number_at b x i)
  pub others : (n : ℕ) → eqb n number ≡ false → find_in n 0 true c ≡ find_in n 0 true b
  pub fresh : find_in number 0 true b ≡ None → find_in number 0 true c ≡ Some (row (number_at b w k) d goes_on)
  pub known : (rows : List (Option Row)) → Known rows 0 true b → row_of rows number ≡ Some (row (number_at b w k) d goes_on) → Known rows 0 true c
  pub fitted : (rows : List (Option Row)) → Known rows 0 true b → length rows < number → Fitted b.forks b.run 64 0 0 → Fitted c.forks c.run 64 0 0

-- what a session keeps
pub record Kept (root t : State) (b : PlainBranch) (way : List Junction) (here issued : ℕ) : Type 0 where
  pub sound : Sound root
  pub stands : Stands root t b way here
  pub proper : Proper way here
  pub falls : RowsFall (rows_of issued b)
  pub known : Known (rows_of issued b) 0 true b
  pub few : issued ≤ 1048576
  pub fitted : Fitted b.forks b.run 64 0 0

-- a session as the calls see it
pub record SessionState : Type 0 where
  pub root : State
  pub rows : List (Option Row)
  pub current : ℕ

-- how many nodes stand above a position, itself included
abbrev pub depth : List Junction → ℕ → ℕ
depth [] k = k
depth (p ∷ ps) k = p.taken + depth ps k
