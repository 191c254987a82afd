use Rattle.std.proofs.Common.{arith}
use Rattle.std.proofs.lemmas.Grind.{common_steps}
use Rattle.rev_explain.proofs.readings.+change_from.Goals as goal

pub returns-in-loop-i-clause-value : goal.returns-in-loop-i-clause-value
returns-in-loop-i-clause-value g t c = grind (arith, common_steps) steps 1500000
