-- The states along a tree, which nobody holds, and the direction of its records.
-- Rule of this project: a state is kept once, and reached by turning records.
use Rattle.std.specs.Prelude.{◌≡◌, ℕ, ◌<◌, ◌≤◌, List, [], ◌∷◌, length}
use Rattle.std.proofs.Common.{suc, zero}
use Rattle.rev_tree.specs.Steps.{State, next, outcome_of, turned, Undoes, Redoes}
use Rattle.rev_tree.specs.Tree.{PlainNode, PlainBranch, Forks, bare, fork, count, fork_at}
use Rattle.rev_tree.specs.Ways.{reach}
use Rattle.rev_tree.specs.declared.junction.Junction.{Junction}

-- the state after the first k nodes of a run that begins at s
abbrev pub after : State → ℕ → List PlainNode → State
after s zero run = s
after s (suc k) [] = s
after s (suc k) (e ∷ es) = after (next s e.step) k es

-- of a run that begins at s, the first k records point back and the others forward
abbrev pub RunHolds : State → List PlainNode → ℕ → Type 0
RunHolds s [] k = Unit {0}
RunHolds s (e ∷ es) zero = Redoes e.undo s e.step × (e.outcome ≡ outcome_of s e.step) × RunHolds (next s e.step) es zero
RunHolds s (e ∷ es) (suc k) = Undoes e.undo s e.step × (e.outcome ≡ outcome_of s e.step) × RunHolds (next s e.step) es k

-- every record of the forks of a run points forward
abbrev pub AllAhead : State → List PlainNode → Forks → Type 0
AllAhead s run bare = Unit {0}
AllAhead s run (fork f r i m) = (f ≤ length run) × RunHolds (after s f run) r 0 × AllAhead (after s f run) r i × AllAhead s run m

-- the same, but for the k-th fork
abbrev pub AllBut : ℕ → State → List PlainNode → Forks → Type 0
AllBut k s run bare = Unit {0}
AllBut zero s run (fork f r i m) = AllAhead s run m
AllBut (suc k) s run (fork f r i m) = (f ≤ length run) × RunHolds (after s f run) r 0 × AllAhead (after s f run) r i × AllBut k s run m

-- the state at which the branch at the end of a way begins
abbrev pub base_at : State → PlainBranch → List Junction → State
base_at s b [] = s
base_at s b (p ∷ ps) = base_at (after s p.taken b.run) (fork_at b.forks p.fork) ps

-- what a way passes by: its own records point back, all others forward
abbrev pub Context : State → PlainBranch → List Junction → Type 0
Context s b [] = Unit {0}
Context s b (p ∷ ps) =
    (p.taken ≤ length b.run) × RunHolds s b.run p.taken × AllBut p.fork s b.run b.forks × (p.fork < count b.forks) × ((fork_at b.forks p.fork).from ≡ p.taken)
    × Context (after s p.taken b.run) (fork_at b.forks p.fork) ps

-- the same of the branch at the end of the way
abbrev pub Ends : State → PlainBranch → ℕ → Type 0
Ends s b here = (here ≤ length b.run) × RunHolds s b.run here × AllAhead s b.run b.forks

-- the state at a position
abbrev pub state_at : State → PlainBranch → List Junction → ℕ → State
state_at s b way here = after (base_at s b way) here (reach b way).run

-- the tree stands at a position, over the state s at its root
pub record Holds (s : State) (b : PlainBranch) (way : List Junction) (here : ℕ) : Type 0 where
  pub context : Context s b way
  pub ends : Ends (base_at s b way) (reach b way) here

-- the state at the start of a run, by turning its first k records back from t
abbrev pub rewind_run : List PlainNode → ℕ → State → State
rewind_run [] k t = t
rewind_run (e ∷ es) zero t = t
rewind_run (e ∷ es) (suc k) t = (turned e.undo (rewind_run es k t)).0

-- the state at the root, by turning the records of a position back from t
abbrev pub rewind : PlainBranch → List Junction → ℕ → State → State
rewind b [] here t = rewind_run b.run here t
rewind b (p ∷ ps) here t = rewind_run b.run p.taken (rewind (fork_at b.forks p.fork) ps here t)
