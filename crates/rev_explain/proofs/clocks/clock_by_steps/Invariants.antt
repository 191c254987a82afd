use Rattle.rev_explain.proofs.Timing.{Sought}
use Rattle.rev_explain.proofs.clocks.clock_by_steps.Given as goal

abbrev pub invariant-nodes : goal.invariant-nodes
invariant-nodes g l = Sought l.session.root l.session.rows l.fn.node.0 l.clock l.above.0 l.left

abbrev pub decreases-nodes : goal.decreases-nodes
decreases-nodes g l = l.left
