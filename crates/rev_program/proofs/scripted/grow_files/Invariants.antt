use Rattle.std.proofs.Common.{List, Option, length}
use Rattle.rev_tree.specs.Steps.{Step}
use Rattle.rev_rules.specs.Grown.{GrowingState, GoesOn}
use Rattle.rev_program.specs.Scripted.{AreFiles}
use Rattle.rev_program.specs.declared.opening.Full.{Full}
use Rattle.rev_program.proofs.scripted.grow_files.Given as goal

-- wherever the files that are left lead, all of them lead there
abbrev pub invariant-loop-name : goal.invariant-loop-name
invariant-loop-name g l = (t : GrowingState) (steps : List Step) (full : Option Full) → AreFiles l.fn.dialect g.F.Read.remaining l.rest.items steps full → GoesOn l.growing steps t →
    (all : List Step) × AreFiles l.fn.dialect g.F.Read.remaining l.fn.files.items all full × GoesOn l.fn.growing all t

abbrev pub decreases-loop-name : goal.decreases-loop-name
decreases-loop-name g l = length l.rest.items
