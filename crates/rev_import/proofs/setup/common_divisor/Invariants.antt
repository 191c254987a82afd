use Rattle.std.proofs.Common.{ℕ}
use Rattle.std.specs.Int.{IsGcd}
use Rattle.rev_import.proofs.setup.common_divisor.Given as goal

-- what divides both divides both of the first
abbrev pub invariant-loop-divisor : goal.invariant-loop-divisor
invariant-loop-divisor l = (g : ℕ) → IsGcd l.dividend l.divisor g → IsGcd l.first l.second g

abbrev pub decreases-loop-divisor : goal.decreases-loop-divisor
decreases-loop-divisor l = l.divisor
