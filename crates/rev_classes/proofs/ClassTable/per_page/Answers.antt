use Rattle.std.proofs.Common.{rules}
use Rattle.rev_classes.proofs.ClassTable.per_page.Goals as goal

pub returns-clause-count : goal.returns-clause-count
returns-clause-count c = search rules steps 500000

pub returns-clause-within : goal.returns-clause-within
returns-clause-within c = search rules steps 500000
