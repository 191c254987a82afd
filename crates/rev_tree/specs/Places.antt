-- Where a branch leaves its parent's run: that is known beside the branch, and not in it.
-- Rule of this project: who holds a branch knows where it leaves.
use Rattle.std.specs.Prelude.{ℕ, ◌+◌, ◌≤◌, List, [], ◌∷◌, map}
use Rattle.std.proofs.Common.{arith}
use Rattle.rev_tree.specs.Tree.{PlainBranch, forks_of, size_of}
use denote.Param.Weighed.{most}

-- a branch that leaves its parent's run behind the first k nodes
abbrev pub with_place : ℕ → PlainBranch → PlainBranch
with_place k b = record { from = k; run = b.run; forks = b.forks }

-- no fork is deeper than all of them together
pub most_le-forks : {X : Type 0} (deep : X → ℕ) (v : X → PlainBranch) (xs : List X) → ((x : X) → deep x ≤ size_of (v x).forks + 1) → most deep xs ≤ size_of (forks_of (map v xs))
most_le-forks deep v [] h = omega arith
most_le-forks deep v (x ∷ xs) h = omega (arith, h x, most_le-forks deep v xs h)
