-- Branches in a list: how many, which one, one that is replaced and one more.
use Rattle.std.specs.Prelude.{◌≡◌, ℕ, List, [], ◌∷◌, ◌++◌, length, get_or, set, refl}
use Rattle.std.proofs.Common.{ap, suc, zero}
use Rattle.rev_tree.specs.Tree.{fork, PlainBranch, count, forks_of, no_branch, fork_at, put_fork, add_fork}

-- how many branches of a list there are, which is the i-th, and what replacing and adding one does to the list
pub count-forks_of : (bs : List PlainBranch) → count (forks_of bs) ≡ length bs
count-forks_of [] = refl
count-forks_of (b ∷ bs) = ap suc (count-forks_of bs)

pub fork_at-forks_of : (bs : List PlainBranch) (i : ℕ) → fork_at (forks_of bs) i ≡ get_or bs i no_branch
fork_at-forks_of [] i = refl
fork_at-forks_of (b ∷ bs) zero = refl
fork_at-forks_of (b ∷ bs) (suc i) = fork_at-forks_of bs i

pub put_fork-forks_of : (bs : List PlainBranch) (i : ℕ) (b : PlainBranch) → put_fork (forks_of bs) i b ≡ forks_of (set bs i b)
put_fork-forks_of [] i b = refl
put_fork-forks_of (c ∷ bs) zero b = refl
put_fork-forks_of (c ∷ bs) (suc i) b = ap (λ m. fork c.from c.run c.forks m) (put_fork-forks_of bs i b)

pub add_fork-forks_of : (bs : List PlainBranch) (b : PlainBranch) → add_fork (forks_of bs) b ≡ forks_of (bs ++ b ∷ [])
add_fork-forks_of [] b = refl
add_fork-forks_of (c ∷ bs) b = ap (λ m. fork c.from c.run c.forks m) (add_fork-forks_of bs b)
