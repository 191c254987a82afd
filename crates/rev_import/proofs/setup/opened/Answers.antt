use Rattle.std.proofs.Common.{rules}
use Rattle.rev_import.proofs.setup.opened.Goals as goal

pub returns-in-Err-clause-config : goal.returns-in-Err-clause-config
returns-in-Err-clause-config c = search rules steps 1500000
