use Rattle.rev_figures.specs.Asking.{ask_in}
use Rattle.rev_figures.proofs.Climbing.{Climbing, read_of}
use Rattle.rev_figures.proofs.walk.climb.Given as goal

abbrev pub invariant-nodes : goal.invariant-nodes
invariant-nodes g l = Climbing l.fn.session l.session l.depth l.slot_length l.steps (read_of l.fn.path) (read_of l.path) (λ k. ask_in l.asks.keys.entries k)

abbrev pub decreases-nodes : goal.decreases-nodes
decreases-nodes g l = l.depth
