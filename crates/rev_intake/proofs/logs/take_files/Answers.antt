use Rattle.rev_intake.proofs.Files.{none_taken, one_taken}
use Rattle.rev_intake.proofs.logs.take_files.Goals as goal

pub files-init : goal.files-init
files-init g c = rw c.from_vec-rest.ensures.items (none_taken _ _ _ _ _)

pub files-preserved : goal.files-preserved
files-preserved g c = one_taken _ _ _ _ _ _ _ _ _ _ _ _ _ _ _ c.in-Some.ensures.items c.files.invariant c.in-Ok.ensures.ok
