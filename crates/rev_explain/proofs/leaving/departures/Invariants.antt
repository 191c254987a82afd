use Rattle.rev_explain.proofs.Departing.{Leaving}
use Rattle.rev_explain.proofs.leaving.departures.Given as goal

abbrev pub invariant-nodes : goal.invariant-nodes
invariant-nodes g l = Leaving l.session l.depth l.departures.items

abbrev pub decreases-nodes : goal.decreases-nodes
decreases-nodes g l = l.depth
