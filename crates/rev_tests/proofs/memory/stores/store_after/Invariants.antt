use Rattle.rev_model.specs.Sound.{Sound}
use Rattle.rev_tests.proofs.memory.stores.store_after.Given as goal

-- each step leaves the store sound
abbrev pub invariant-loop-command : goal.invariant-loop-command
invariant-loop-command g l = Sound l.store
