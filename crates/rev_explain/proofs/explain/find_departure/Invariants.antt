use Rattle.rev_explain.proofs.Searches.{Searching}
use Rattle.rev_explain.proofs.explain.find_departure.Given as goal

abbrev pub invariant-loop-node : goal.invariant-loop-node
invariant-loop-node g l = Searching l.session l.key l.depth

abbrev pub decreases-loop-node : goal.decreases-loop-node
decreases-loop-node g l = l.depth
