use Rattle.rev_explain.proofs.Timing.{Timed}
use Rattle.rev_explain.proofs.clocks.node_by_time.Given as goal

abbrev pub invariant-nodes : goal.invariant-nodes
invariant-nodes g l = Timed l.session l.time l.depth l.clock

abbrev pub decreases-nodes : goal.decreases-nodes
decreases-nodes g l = l.depth
