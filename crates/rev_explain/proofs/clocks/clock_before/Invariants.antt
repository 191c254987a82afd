use Rattle.std.proofs.Common.{◌≡◌}
use Rattle.rev_model.specs.State.{State}
use Rattle.rev_model.specs.Move.{turned}
use Rattle.rev_explain.proofs.Timing.{clock_from}
use Rattle.rev_explain.proofs.clocks.clock_before.Given as goal

-- no change before the i-th sets the clock
abbrev pub invariant-loop-i : goal.invariant-loop-i
invariant-loop-i g l = (after : State) → (turned l.trace.moves after).0.globals.clock ≡ clock_from l.trace.changes l.i after
