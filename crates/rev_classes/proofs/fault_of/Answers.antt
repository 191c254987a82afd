use Rattle.std.proofs.Common.{rules}
use Rattle.rev_classes.proofs.fault_of.Goals as goal

pub returns-in-Err : goal.returns-in-Err
returns-in-Err c = search rules steps 500000
