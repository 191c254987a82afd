use Rattle.std.proofs.Common.{rules}
use Rattle.rev_program.proofs.program.record_files.Goals as goal

pub returns-in-Some-clause-config : goal.returns-in-Some-clause-config
returns-in-Some-clause-config g c = search rules steps 4000000
