use Rattle.std.proofs.Common.{rules}
use Rattle.rev_shell.proofs.run.fault_at.Goals as goal

pub returns-in-Read : goal.returns-in-Read
returns-in-Read c = search rules steps 500000
