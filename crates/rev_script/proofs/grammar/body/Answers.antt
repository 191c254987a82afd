use Rattle.std.proofs.Common.{rules}
use Rattle.rev_script.proofs.grammar.body.Goals as goal

pub returns-else-n-gt0 : goal.returns-else-n-gt0
returns-else-n-gt0 c = search rules steps 500000
