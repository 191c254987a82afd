-- The rows of a session by number, and what its tree says of them.
-- Rule of this project: a session is what its rows say: the state at a node is its steps from the root, run forward.
use Rattle.std.specs.Prelude.{◌≡◌, ℕ, ◌<◌, Bool, true, false, cond, eqb, List, [], ◌∷◌, ◌++◌, get_or, Option, Some, None}
use Rattle.std.proofs.Common.{suc, zero}
use Rattle.rev_tree.specs.Steps.{State, Step, next}
use Rattle.rev_tree.specs.Tree.{PlainNode, PlainBranch, Forks, bare, fork, fork_at}
use Rattle.rev_tree.specs.Ways.{reach}
use Rattle.rev_tree.specs.declared.junction.Junction.{Junction}

-- how a node was played: at which node, by which step, and whether it continues its parent's run
pub record Row : Type 0 where
  pub parent : ℕ
  pub step : Step
  pub continues : Bool

-- the row of node n, none for the root and for a node that is not held
abbrev pub row_of : List (Option Row) → ℕ → Option Row
row_of rows zero = None
row_of rows (suc m) = get_or rows m None

-- the parent that a row names
abbrev pub option_parent : Option Row → Option ℕ
option_parent None = None
option_parent (Some r) = Some r.parent

-- the parent of node n, if n is held and not the root
abbrev pub parent_of : List (Option Row) → ℕ → Option ℕ
parent_of rows n = option_parent (row_of rows n)

-- a state by a row, s where there is none
abbrev pub state_from : Option Row → State → (Row → State) → State
state_from None s f = s
state_from (Some r) s f = f r

-- the state at node n, from at most so many nodes up
abbrev pub at_within : ℕ → State → List (Option Row) → ℕ → State
at_within zero root rows n = root
at_within (suc k) root rows n = state_from (row_of rows n) root (λ r. next (at_within k root rows r.parent) r.step)

-- the state at node n from scratch: the steps from the root to n, run forward
unfoldable pub at : State → List (Option Row) → ℕ → State
at root rows n = at_within n root rows n

-- a parent was played before its child
abbrev pub RowsFall : List (Option Row) → Type 0
RowsFall rows = (n : ℕ) (r : Row) → row_of rows n ≡ Some r → r.parent < n

-- a row of these parts
abbrev pub row : ℕ → Step → Bool → Row
row p d c = record { parent = p; step = d; continues = c }

-- the number after the first k nodes of a run that begins behind node p
abbrev pub number_after : ℕ → ℕ → List PlainNode → ℕ
number_after p zero run = p
number_after p (suc k) [] = p
number_after p (suc k) (e ∷ es) = number_after e.number k es

-- the number behind which the branch at the end of a way begins, and whether its first node continues
abbrev pub start_at : ℕ → PlainBranch → List Junction → ℕ
start_at p b [] = p
start_at p b (q ∷ qs) = start_at (number_after p q.taken b.run) (fork_at b.forks q.fork) qs

-- the node at a position
abbrev pub number_at : PlainBranch → List Junction → ℕ → ℕ
number_at b way here = number_after (start_at 0 b way) here (reach b way).run

-- the first, or the second where there is no first
abbrev pub or_else : Option Row → Option Row → Option Row
or_else None q = q
or_else (Some r) q = Some r

-- the row of number n, as the tree has it
abbrev pub find_run : ℕ → ℕ → Bool → List PlainNode → Option Row
find_run n p c [] = None
find_run n p c (e ∷ es) = cond (eqb n e.number) (Some (row p e.step c)) (find_run n e.number true es)

-- the same in the forks of a run that begins behind node p
abbrev pub find_forks : ℕ → ℕ → List PlainNode → Forks → Option Row
find_forks n p run bare = None
find_forks n p run (fork f r i m) =
    or_else (or_else (find_run n (number_after p f run) false r) (find_forks n (number_after p f run) r i)) (find_forks n p run m)

-- the same in a branch that begins behind node p; c says whether its first node continues a run
abbrev pub find_in : ℕ → ℕ → Bool → PlainBranch → Option Row
find_in n p c b = or_else (find_run n p c b.run) (find_forks n p b.run b.forks)

-- the rows of the first k numbers
unfoldable pub rows_of : ℕ → PlainBranch → List (Option Row)
rows_of zero b = []
rows_of (suc k) b = rows_of k b ++ (find_in (suc k) 0 true b ∷ [])

-- each node of the tree has its row
abbrev pub KnownRun : List (Option Row) → ℕ → Bool → List PlainNode → Type 0
KnownRun rows p c [] = Unit {0}
KnownRun rows p c (e ∷ es) = (row_of rows e.number ≡ Some (row p e.step c)) × KnownRun rows e.number true es

-- the same of the forks of a run
abbrev pub KnownForks : List (Option Row) → ℕ → List PlainNode → Forks → Type 0
KnownForks rows p run bare = Unit {0}
KnownForks rows p run (fork f r i m) = KnownRun rows (number_after p f run) false r × KnownForks rows (number_after p f run) r i × KnownForks rows p run m

-- the same of a branch
abbrev pub Known : List (Option Row) → ℕ → Bool → PlainBranch → Type 0
Known rows p c b = KnownRun rows p c b.run × KnownForks rows p b.run b.forks
