-- Several moves in a row.
use Rattle.std.proofs.Common.{◌≡◌, ℕ, suc, zero, ◌<◌, Bool, true, false, List, [], ◌∷◌, ◌++◌, refl, ◌∙◌, subst, arith}
use Rattle.rev_tree.specs.Steps.{State}
use Rattle.rev_tree.specs.Tree.{PlainBranch}
use Rattle.rev_tree.specs.States.{rewind}
use Rattle.rev_tree.specs.Positions.{Stands, Same, Moved, Proper, Below, along, fork_off, depth}
use Rattle.rev_tree.proofs.Positions.{stands_root, Proper-zero}
use Rattle.rev_tree.specs.Paths.{IsOnWay}
use Rattle.rev_tree.proofs.Paths.{root_on}
use Rattle.rev_tree.specs.declared.junction.Junction.{Junction}

depth-suc : (w : List Junction) (k : ℕ) → depth w (suc k) ≡ suc (depth w k)
depth-suc [] k = refl
depth-suc (p ∷ ps) k = let h = depth-suc ps k in omega (arith, h)

depth-more : (w : List Junction) (p : Junction) → depth (w ++ p ∷ []) 1 ≡ suc (depth w p.taken)
depth-more [] p = omega arith
depth-more (q ∷ qs) p = let h = depth-more qs p in omega (arith, h)

pub depth_below : (v w : List Junction) (k j : ℕ) → Below v k w j → depth w j ≡ suc (depth v k)
depth_below v w k j (along {w = x} {k = i}) = depth-suc x i
depth_below v w k j (fork_off {w = x} p) = depth-more x p

pub same_trans : (a b c : PlainBranch) → Same a b → Same b c → Same a c
same_trans a b c h k = record { finds = λ n. k.finds n ∙ h.finds n; known = λ rows g. k.known rows (h.known rows g); shape = k.shape ∙ h.shape }

pub same_refl : (a : PlainBranch) → Same a a
same_refl a = record { finds = λ n. refl; known = λ rows g. g; shape = refl }

pub moved_start : (root t : State) (b : PlainBranch) (w : List Junction) (k : ℕ) → Stands root t b w k → Proper w k → Moved root b t b w k
moved_start root t b w k h q = record { stands = h; same = same_refl b; proper = q }

-- what the next move needs, and what it gives
pub moved_ready : (root u : State) (b c : PlainBranch) (v : List Junction) (k : ℕ) → Moved root b u c v k → Stands (rewind c v k u) u c v k
moved_ready root u b c v k h = rw (stands_root root u c v k h.stands) h.stands

pub moved_on : (root u x : State) (b c d : PlainBranch) (v w : List Junction) (k j : ℕ) → Moved root b u c v k → Moved (rewind c v k u) c x d w j → Moved root b x d w j
moved_on root u x b c d v w k j h m = record {
  stands = subst (λ z. Stands z x d w j) (stands_root root u c v k h.stands) m.stands;
  same = same_trans b c d h.same m.same;
  proper = m.proper;
}

pub at_root : (w : List Junction) (k : ℕ) → Proper w k → k ≡ 0 → w ≡ []
at_root w k h e = Proper-zero w (rw e at h)

-- a position that is not on the way is not the root
pub must_retreat : (w x : List Junction) (k : ℕ) (t : List Junction) (h : ℕ) (o : Bool) → x ≡ w → Proper w k → (IsOnWay x k t h → o ≡ true) → o ≡ false → 0 < k
must_retreat w x zero t h o ex q f e = let r = f (root_on x zero t h (ex ∙ at_root w zero q refl) refl) in cc
must_retreat w x (suc k) t h o ex q f e = omega arith
