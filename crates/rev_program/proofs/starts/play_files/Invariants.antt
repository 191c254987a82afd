use Rattle.std.proofs.Common.{length}
use Rattle.rev_tree.specs.Positions.{SessionState}
use Rattle.rev_program.specs.Starts.{AreStarts, DoHalt}
use Rattle.rev_messages.specs.declared.stop.Stop.{Stop}
use Rattle.rev_program.proofs.starts.play_files.Given as goal

-- wherever the files that are left lead, all of them lead there; and where they halt, all of them do
abbrev pub invariant-loop-name : goal.invariant-loop-name
invariant-loop-name g l = record {
  lead : (t : SessionState) → AreStarts l.fn.dialect g.F.Read.remaining l.rest.items l.session t → AreStarts l.fn.dialect g.F.Read.remaining l.fn.files.items l.fn.session t;
  halt : (stop : Stop) → DoHalt l.fn.dialect g.F.Read.remaining l.rest.items l.session stop → DoHalt l.fn.dialect g.F.Read.remaining l.fn.files.items l.fn.session stop;
}

abbrev pub decreases-loop-name : goal.decreases-loop-name
decreases-loop-name g l = length l.rest.items
