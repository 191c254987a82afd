-- The class of a key that left.
use Rattle.std.proofs.Common.{◌≡◌, ℕ, List, Option, Some, None, IfSome, subst, sym}
use Rattle.rev_inverse.specs.Record.{PlainRecord}
use Rattle.rev_tree.specs.Steps.{Step, Outcome}
use Rattle.rev_tree.specs.Positions.{SessionState}
use Rattle.rev_tree.specs.Trails.{Trailed}
use Rattle.rev_life.specs.Class.{class_by, IsLeft}

-- by the record of the node of this number, at the depth of its number
pub left_by : (s : SessionState) (d n : ℕ) (e : Step) (a : Outcome) (r : PlainRecord) (k : List ℕ) (o : Option ℕ) → Trailed s d n e a r → n ≡ d → o ≡ class_by r.changes k
    → IfSome o (λ c. IsLeft s d k c)
left_by s d n e a r k None t same is = tt
left_by s d n e a r k (Some c) t same is = record { played = e; answered = a; trace = r; trailed = subst (λ m. Trailed s d m e a r) same t; back = sym is }
