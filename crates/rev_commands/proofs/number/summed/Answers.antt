use Rattle.std.proofs.Common.{rules}
use Rattle.rev_commands.proofs.number.summed.Goals as goal

pub returns-in-Decrement : goal.returns-in-Decrement
returns-in-Decrement c = search rules
