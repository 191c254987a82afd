use Rattle.rev_lives.proofs.Aside.{AreAside}
use Rattle.rev_lives.proofs.hashes.note_steps.Given as goal

-- what is not there has no event below
abbrev pub invariant-nodes : goal.invariant-nodes
invariant-nodes g l = AreAside l.session l.depth l.fn.hashes.items l.hashes.items

abbrev pub decreases-nodes : goal.decreases-nodes
decreases-nodes g l = l.depth
