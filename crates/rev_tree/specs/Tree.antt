-- What a branch is seen as: where it leaves its parent's run, its run, and the branches that fork from it.
-- Rule of this project: the tree of all attempts, as plain data.
use Rattle.std.specs.Prelude.{◌≡◌, ℕ, ◌+◌, List, [], ◌∷◌, refl, Option, Some, None}
use Rattle.std.proofs.Common.{ap, ◌∙◌, suc, zero}
use Rattle.std.specs.Coded.{Coded, code_by, coded×, coded_ℕ, coded_list, coded_option}
use Rattle.rev_tree.specs.Steps.{Step, Outcome, PlainRecord}

-- one node of a run
pub record PlainNode : Type 0 where
  pub number : ℕ
  pub step : Step
  pub outcome : Outcome
  pub undo : PlainRecord

-- some branches, in the order in which they were made
pub data Forks : Type 0 where
  bare : Forks
  fork : (from : ℕ) (run : List PlainNode) (inner : Forks) (more : Forks) → Forks

-- a branch
pub record PlainBranch : Type 0 where
  pub from : ℕ
  pub run : List PlainNode
  pub forks : Forks

-- how many branches
abbrev pub count : Forks → ℕ
count bare = 0
count (fork f r i m) = suc (count m)

-- how many branches, those within them too
abbrev pub size_of : Forks → ℕ
size_of bare = 0
size_of (fork f r i m) = 1 + size_of i + size_of m

-- how many branches are within a branch
abbrev pub branch_size : PlainBranch → ℕ
branch_size b = size_of b.forks

-- branches, one after another
abbrev pub forks_of : List PlainBranch → Forks
forks_of [] = bare
forks_of (b ∷ bs) = fork b.from b.run b.forks (forks_of bs)

-- a branch with nothing
abbrev pub no_branch : PlainBranch
no_branch = record { from = 0; run = []; forks = bare }

-- the i-th branch
abbrev pub fork_at : Forks → ℕ → PlainBranch
fork_at bare i = no_branch
fork_at (fork f r i m) zero = record { from = f; run = r; forks = i }
fork_at (fork f r i m) (suc k) = fork_at m k

-- the branches with the i-th replaced
abbrev pub put_fork : Forks → ℕ → PlainBranch → Forks
put_fork bare k b = bare
put_fork (fork f r i m) zero b = fork b.from b.run b.forks m
put_fork (fork f r i m) (suc k) b = fork f r i (put_fork m k b)

-- the branches with one more behind them
abbrev pub add_fork : Forks → PlainBranch → Forks
add_fork bare b = fork b.from b.run b.forks bare
add_fork (fork f r i m) b = fork f r i (add_fork m b)

-- a code for branches: a list of runs and ends, from which a stack rebuilds them
abbrev Part : Type 0
Part = Option (ℕ × List PlainNode)

-- the code of a part
abbrev part_code : Coded PlainNode → Coded Part
part_code node = coded_option (coded× coded_ℕ (coded_list node))

-- the parts of branches, in front of a list of parts
abbrev parts : Forks → List Part → List Part
parts bare ps = None ∷ ps
parts (fork f r i m) ps = Some (f, r) ∷ parts i (parts m ps)

-- a part read: an end begins a list of branches, a run joins the two lists on top
abbrev joined : Part → List Forks → List Forks
joined None st = bare ∷ st
joined (Some p) [] = []
joined (Some p) (i ∷ []) = []
joined (Some p) (i ∷ (m ∷ st)) = fork p.0 p.1 i m ∷ st

-- the lists of branches that parts tell
abbrev rebuilt : List Part → List Forks
rebuilt [] = []
rebuilt (p ∷ ps) = joined p (rebuilt ps)

-- the list on top
abbrev first_of_list : List Forks → Forks
first_of_list [] = bare
first_of_list (f ∷ fs) = f

-- the parts of branches tell those branches
pub rebuilt-parts : (f : Forks) (ps : List Part) → rebuilt (parts f ps) ≡ f ∷ rebuilt ps
rebuilt-parts bare ps = refl
rebuilt-parts (fork f r i m) ps =
    ap (joined (Some (f, r))) (rebuilt-parts i (parts m ps) ∙ ap (λ st. i ∷ st) (rebuilt-parts m ps))

-- the code of branches
abbrev pub forks_code : Coded PlainNode → Coded Forks
forks_code node = code_by (List Part) (coded_list (part_code node)) (λ f. parts f []) (λ ps. first_of_list (rebuilt ps)) (λ f. ap first_of_list (rebuilt-parts f []))

-- the code of a branch
abbrev pub branch_code : Coded PlainNode → Coded PlainBranch
branch_code node =
    code_by (ℕ × (List PlainNode × Forks)) (coded× coded_ℕ (coded× (coded_list node) (forks_code node)))
    (λ b. (b.from, (b.run, b.forks))) (λ p. record { from = p.0; run = p.1.0; forks = p.1.1 }) (λ _. refl)
