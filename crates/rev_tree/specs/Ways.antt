-- Positions in a tree: the forks on the way from the base branch, and how much of each run is taken.
-- Rule of this project: how a position is written.
use Rattle.std.specs.Prelude.{ℕ, ◌<◌, List, [], ◌∷◌, ◌++◌, get_or, set}
use Rattle.rev_tree.specs.Steps.{PlainRecord}
use Rattle.rev_model.specs.Actor as actor
use Rattle.rev_model.specs.declared.Outcome.TheVariants as outcome
use Rattle.rev_tree.specs.Tree.{PlainNode, PlainBranch, count, fork_at, put_fork, add_fork}
use Rattle.rev_tree.specs.declared.junction.Junction.{Junction}

-- what is read where there is no node
abbrev pub no_node : PlainNode
no_node = record { number = 0; step = actor.Bump; outcome = outcome.Idle; undo = record { moves = []; notes = []; room = 0; changes = [] } }

-- the branch at the end of a way
abbrev pub reach : PlainBranch → List Junction → PlainBranch
reach b [] = b
reach b (p ∷ ps) = reach (fork_at b.forks p.fork) ps

-- each fork on the way is there
abbrev pub IsWay : PlainBranch → List Junction → Type 0
IsWay b [] = Unit {0}
IsWay b (p ∷ ps) = (p.fork < count b.forks) × IsWay (fork_at b.forks p.fork) ps

-- the tree with the branch at the end of a way changed
abbrev pub at_end : (PlainBranch → PlainBranch) → PlainBranch → List Junction → PlainBranch
at_end f b [] = f b
at_end f b (p ∷ ps) = record { from = b.from; run = b.run; forks = put_fork b.forks p.fork (at_end f (fork_at b.forks p.fork) ps) }

-- the record of the k-th node of a run
abbrev pub undo_of : List PlainNode → ℕ → PlainRecord
undo_of run k = (get_or run k no_node).undo

-- a branch with that record changed
abbrev pub with_undo : ℕ → PlainRecord → PlainBranch → PlainBranch
with_undo k r b = record { from = b.from; run = set b.run k (record (get_or b.run k no_node) { undo = r }); forks = b.forks }

-- a branch with one more node
abbrev pub with_node : PlainNode → PlainBranch → PlainBranch
with_node e b = record { from = b.from; run = b.run ++ (e ∷ []); forks = b.forks }

-- a branch with one more fork
abbrev pub with_fork : PlainBranch → PlainBranch → PlainBranch
with_fork c b = record { from = b.from; run = b.run; forks = add_fork b.forks c }
