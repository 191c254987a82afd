use Rattle.rev_intake.proofs.Files.{script_made}
use Rattle.rev_intake.proofs.logs.make_script.Goals as goal

pub returns-in-Ok-finish-clause-ok : goal.returns-in-Ok-finish-clause-ok
returns-in-Ok-finish-clause-ok g c = script_made _ _ _ _ _ _ _ _ _ _ _ c.in-Ok.ensures.ok c.in-Ok-finish.ensures.ok
