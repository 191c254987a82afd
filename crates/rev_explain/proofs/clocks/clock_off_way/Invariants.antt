use Rattle.std.proofs.Common.{◌≡◌}
use Rattle.rev_explain.specs.Clocks.{clock_at}
use Rattle.rev_explain.proofs.clocks.clock_off_way.Given as goal

-- no step from the node up to here, this one left out, set the clock
abbrev pub invariant-nodes : goal.invariant-nodes
invariant-nodes g l = clock_at l.session.root l.session.rows l.fn.node.0 ≡ clock_at l.session.root l.session.rows l.above.0

abbrev pub decreases-nodes : goal.decreases-nodes
decreases-nodes g l = l.above.0
