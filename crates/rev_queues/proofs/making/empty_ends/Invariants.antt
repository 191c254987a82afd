use Rattle.std.proofs.Common.{◌≡◌, length}
use Rattle.rev_queues.specs.Empty.{AreEnds}
use Rattle.rev_queues.proofs.making.empty_ends.Given as goal

abbrev pub invariant-loop-number : goal.invariant-loop-number
invariant-loop-number g l = record { count : length l.ends.items ≡ l.number; empty : AreEnds l.ends.items }
