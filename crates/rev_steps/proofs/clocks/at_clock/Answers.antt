use Rattle.std.proofs.Common.{rules}
use Rattle.rev_steps.proofs.clocks.at_clock.Goals as goal

pub returns-then-is_due : goal.returns-then-is_due
returns-then-is_due c = search rules steps 500000
