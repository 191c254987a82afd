use Rattle.rev_tree.specs.Mentioned.{Grows}
use Rattle.rev_tree.proofs.Named.{IsSoFar}
use Rattle.rev_tree.proofs.naming.mention_record.Given as goal

-- what the changes before the i-th name is mentioned
abbrev pub invariant-loop-i : goal.invariant-loop-i
invariant-loop-i g l = Grows l.fn.mentions l.mentions l.node × IsSoFar l.mentions l.store l.undo.changes l.i l.node
