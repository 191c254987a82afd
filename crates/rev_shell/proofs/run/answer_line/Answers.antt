use Rattle.std.proofs.Common.{rules}
use Rattle.rev_shell.proofs.run.answer_line.Goals as goal

pub returns-clause-text : goal.returns-clause-text
returns-clause-text g c = search rules steps 500000
