use Rattle.std.proofs.Common.{rules}
use Rattle.rev_script.proofs.raw_line.at_most.Goals as goal

pub returns-else-text-room : goal.returns-else-text-room
returns-else-text-room c = search rules steps 500000
