-- What order the numbers of a tree have, and how deep its forks nest.
-- Rule of this project: numbers rise along each run and from fork to fork.
use Rattle.std.specs.Prelude.{ℕ, ◌-◌, ◌<◌, ◌≤◌, List, [], ◌∷◌, length, Option, Some, None}
use Rattle.rev_tree.specs.Tree.{PlainNode, PlainBranch, Forks, bare, fork}

-- behind the number p, the numbers of a run rise
abbrev pub RisesFrom : ℕ → List PlainNode → Type 0
RisesFrom p [] = Unit {0}
RisesFrom p (e ∷ es) = (p < e.number) × RisesFrom e.number es

-- the numbers of a run rise
abbrev pub RisesRun : List PlainNode → Type 0
RisesRun [] = Unit {0}
RisesRun (e ∷ es) = RisesFrom e.number es

-- the numbers of each run of the forks rise
abbrev pub RisesForks : Forks → Type 0
RisesForks bare = Unit {0}
RisesForks (fork f r i m) = RisesRun r × RisesForks i × RisesForks m

-- the numbers of each run rise
abbrev pub Rises : PlainBranch → Type 0
Rises b = RisesRun b.run × RisesForks b.forks

-- the first number of a run
abbrev pub head_number : List PlainNode → Option ℕ
head_number [] = None
head_number (e ∷ es) = Some e.number

-- the next fork's first number is over this
abbrev pub bar : ℕ → Option ℕ → ℕ
bar l None = l
bar l (Some n) = n

-- a fork with a node leaves its run at z or later, and its first number is over l
abbrev pub IsFirst : ℕ → ℕ → ℕ → Option ℕ → Type 0
IsFirst z l f None = Unit {0}
IsFirst z l f (Some n) = (z ≤ f) × (l < n)

-- the forks of a run nest at most k deep, leave it where it is, at z or later, and stand in the order of their numbers,
-- all over l
abbrev pub Fitted : Forks → List PlainNode → ℕ → ℕ → ℕ → Type 0
Fitted bare run k l z = Unit {0}
Fitted (fork f r i m) run k l z = (0 < k) × (f ≤ length run) × IsFirst z l f (head_number r) × Fitted i r (k - 1) 0 1 × Fitted m run k (bar l (head_number r)) z
