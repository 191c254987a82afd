use Rattle.std.proofs.Common.{rules}
use Rattle.rev_classes.proofs.ClassTable.page_size.Goals as goal

pub returns-clause-page : goal.returns-clause-page
returns-clause-page c = search rules steps 500000

pub returns-clause-within : goal.returns-clause-within
returns-clause-within c = search rules steps 500000
