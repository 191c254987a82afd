-- A position that one can go to, and how far a position is on the way to it.
-- Rule of this project: what stands in a tree.
use Rattle.std.specs.Prelude.{◌≡◌, ℕ, ◌<◌, ◌≤◌, List, [], ◌∷◌, length}
use Rattle.rev_tree.specs.Tree.{PlainBranch, count, fork_at}
use Rattle.rev_tree.specs.declared.junction.Junction.{Junction}

-- the position stands in the tree
abbrev pub IsPath : PlainBranch → List Junction → ℕ → Type 0
IsPath b [] h = h ≤ length b.run
IsPath b (p ∷ ps) h = (p.taken ≤ length b.run) × (p.fork < count b.forks) × ((fork_at b.forks p.fork).from ≡ p.taken) × IsPath (fork_at b.forks p.fork) ps h

-- the position (w, k) lies on the way to (t, h)
abbrev pub IsOnWay : List Junction → ℕ → List Junction → ℕ → Type 0
IsOnWay [] k [] h = k ≤ h
IsOnWay [] k (t ∷ ts) h = k ≤ t.taken
IsOnWay (p ∷ ps) k [] h = ⊥
IsOnWay (p ∷ ps) k (t ∷ ts) h = (p ≡ t) × IsOnWay ps k ts h
