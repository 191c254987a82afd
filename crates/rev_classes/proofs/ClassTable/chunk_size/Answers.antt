use Rattle.std.proofs.Common.{rules}
use Rattle.rev_classes.proofs.ClassTable.chunk_size.Goals as goal

pub returns-clause-size : goal.returns-clause-size
returns-clause-size c = search rules steps 500000
