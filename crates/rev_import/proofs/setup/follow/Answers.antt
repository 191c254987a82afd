use Rattle.std.proofs.Common.{rules}
use Rattle.rev_import.proofs.setup.follow.Goals as goal

pub returns-clause-follows : goal.returns-clause-follows
returns-clause-follows c = search rules steps 1500000
