use Rattle.rev_model.specs.Sound.{Sound}
use Rattle.rev_tests.proofs.memory.fixed.filled.Given as goal

-- each item leaves the store sound
abbrev pub invariant-loop-number : goal.invariant-loop-number
invariant-loop-number g l = Sound l.store
