use Rattle.rev_intake.proofs.RowsTaken.{no_trace_taken, trace_taken}
use Rattle.rev_intake.proofs.traces.take_files.Goals as goal

pub files-init : goal.files-init
files-init g c = rw c.from_vec-rest.ensures.items (no_trace_taken _ _ _ _ _)

pub files-preserved : goal.files-preserved
files-preserved g c = trace_taken _ _ _ _ _ _ _ _ _ _ _ _ _ _ _ c.in-Some.ensures.items c.files.invariant c.in-Ok.ensures.ok
