-- What a prune takes away: a node and all below it.
-- Rule of this project: their numbers are never given again.
use Rattle.std.specs.Prelude.{ℕ, Bool, true, false, cond, nat_eq, nat_lt, List, [], ◌∷◌, take, Option, None}
use Rattle.std.proofs.Common.{suc}
use Rattle.rev_tree.specs.Tree.{PlainBranch, Forks, bare, fork}
use Rattle.rev_tree.specs.Rows.{Row}
use Rattle.rev_tree.specs.Machine.{lineage}

-- n stands in the list
abbrev pub is_among : ℕ → List ℕ → Bool
is_among n [] = false
is_among n (m ∷ ms) = cond (nat_eq m n) true (is_among n ms)

-- node m is n, or below it
abbrev pub is_below : List (Option Row) → ℕ → ℕ → Bool
is_below rows n m = is_among n (lineage rows m)

-- the rows behind the first k, those of n and of all below it made empty
abbrev pub spared : List (Option Row) → ℕ → ℕ → List (Option Row) → List (Option Row)
spared rows n k [] = []
spared rows n k (q ∷ qs) = cond (is_below rows n (suc k)) None q ∷ spared rows n (suc k) qs

-- the rows after n and all below it were taken away
abbrev pub pruned : List (Option Row) → ℕ → List (Option Row)
pruned rows n = spared rows n 0 rows

-- a fork that leaves its run behind the first k nodes is emptied
abbrev pub trimmed : ℕ → PlainBranch → PlainBranch
trimmed k b = cond (nat_lt k b.from) (record { from = 0; run = []; forks = bare }) b

-- forks of which those are emptied that leave their run behind its first k nodes
abbrev pub trimmed_forks : ℕ → Forks → Forks
trimmed_forks k bare = bare
trimmed_forks k (fork f r i m) = cond (nat_lt k f) (fork 0 [] bare (trimmed_forks k m)) (fork f r i (trimmed_forks k m))

-- a branch with the first k nodes of its run, and the forks that leave the run there
abbrev pub cropped : ℕ → PlainBranch → PlainBranch
cropped k b = record { from = b.from; run = take k b.run; forks = trimmed_forks k b.forks }
