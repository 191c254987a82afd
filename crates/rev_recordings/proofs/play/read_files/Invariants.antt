use Rattle.std.proofs.Common.{◌≡◌, ◌+◌, ◌++◌, length, List}
use Rattle.std.specs.Global.{Vec}
use Rattle.std.specs.declared.alloc.Global.{Global}
use Rattle.rev_requests.specs.declared.steps.Step.{Step}
use Rattle.rev_recordings.specs.Recordings.{AreScripts, IsSpoilt}
use Rattle.rev_recordings.specs.declared.fault.RecordingFault.{RecordingFault}
use Rattle.rev_recordings.proofs.play.read_files.Given as goal

-- with scripts of the files that are left, there is one for each file; and where one of those left is at fault, it is
-- one of all
abbrev pub invariant-loop-name : goal.invariant-loop-name
invariant-loop-name g l = record {
  count : length l.scripts.items + length l.rest.items ≡ length l.fn.files.items;
  steps : (more : List (Vec (Step Global))) → AreScripts l.fn.dialect g.F.Read.remaining l.rest.items more → AreScripts l.fn.dialect g.F.Read.remaining l.fn.files.items (l.scripts.items ++ more);
  spoilt : (e : RecordingFault) → IsSpoilt l.fn.dialect g.F.Read.remaining l.rest.items e → IsSpoilt l.fn.dialect g.F.Read.remaining l.fn.files.items e;
}

abbrev pub decreases-loop-name : goal.decreases-loop-name
decreases-loop-name g l = length l.rest.items
