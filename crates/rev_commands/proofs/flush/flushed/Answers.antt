use Rattle.std.proofs.Common.{rules}
use Rattle.rev_commands.proofs.flush.flushed.Goals as goal

pub returns-then-due-from : goal.returns-then-due-from
returns-then-due-from c = search rules steps 500000
