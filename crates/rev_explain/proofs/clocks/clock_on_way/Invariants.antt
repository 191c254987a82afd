use Rattle.std.proofs.Common.{ℕ, ◌-◌}
use Rattle.rev_explain.specs.Clocks.{Clocked}
use Rattle.rev_explain.proofs.clocks.clock_on_way.Given as goal

-- no step behind `above` up to `behind` sets the clock
abbrev pub invariant-steps : goal.invariant-steps
invariant-steps g l = (clock : ℕ) → Clocked l.session l.depth clock → Clocked l.session l.above clock × Clocked l.session l.behind clock

abbrev pub decreases-steps : goal.decreases-steps
decreases-steps g l = l.last - l.behind
