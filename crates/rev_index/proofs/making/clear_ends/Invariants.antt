use Rattle.rev_index.proofs.Ends.{Clears}
use Rattle.rev_index.proofs.making.clear_ends.Given as goal

abbrev pub invariant-loop-number : goal.invariant-loop-number
invariant-loop-number l = Clears l.initial.ends l.ends l.number
