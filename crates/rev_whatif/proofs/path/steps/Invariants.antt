use Rattle.std.proofs.Common.{map}
use Rattle.rev_requests.specs.Plain.{plain_step}
use Rattle.rev_whatif.proofs.Reading.{Reading}
use Rattle.rev_whatif.proofs.path.steps.Given as goal

abbrev pub invariant-nodes : goal.invariant-nodes
invariant-nodes g l = Reading l.session l.depth (map (λ step. plain_step step.now) l.steps.items)

abbrev pub decreases-nodes : goal.decreases-nodes
decreases-nodes g l = l.depth
