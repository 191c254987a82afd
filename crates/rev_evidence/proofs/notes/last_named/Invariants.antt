use Rattle.std.proofs.Common.{◌≡◌}
use Rattle.rev_evidence.specs.Notes.{last_named}
use Rattle.rev_evidence.proofs.notes.last_named.Given as goal

-- no line behind these nodes is such a line
abbrev pub invariant-nodes : goal.invariant-nodes
invariant-nodes l = last_named l.moments l.hash l.time l.fn.node.0 ≡ last_named l.moments l.hash l.time l.nodes

abbrev pub decreases-nodes : goal.decreases-nodes
decreases-nodes l = l.nodes
