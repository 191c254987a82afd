use Rattle.std.proofs.Common.{refl, ◌∙◌}
use Rattle.rev_intake.proofs.Files.{log_said, bytes_spoilt}
use Rattle.rev_intake.proofs.logs.take_file.Goals as goal

pub returns-in-Ok-clause-ok : goal.returns-in-Ok-clause-ok
returns-in-Ok-clause-ok g c = log_said _ _ _ _ _ _ _ _ _ _ (c.over-log.ensures.ahead ∙ rw c.new.ensures refl) c.in-Ok.ensures.ok

pub returns-clause-err : goal.returns-clause-err
returns-clause-err g c =
    bytes_spoilt _ (c.over-log.ensures.ahead ∙ rw c.new.ensures refl) c.over-log.ensures.lines c.in-Err.ensures.err
