use Rattle.std.proofs.Common.{rules}
use Rattle.rev_classes.proofs.ClassTable.last.Goals as goal

pub returns-clause-last : goal.returns-clause-last
returns-clause-last c = search rules steps 500000

pub returns-clause-within : goal.returns-clause-within
returns-clause-within c = search rules steps 500000
