use Rattle.rev_explain.proofs.Searches.{Telling}
use Rattle.rev_explain.proofs.explain.story.Given as goal

abbrev pub invariant-loop-node : goal.invariant-loop-node
invariant-loop-node g l = Telling l.session l.key l.depth l.place l.events.items

abbrev pub decreases-loop-node : goal.decreases-loop-node
decreases-loop-node g l = l.depth
