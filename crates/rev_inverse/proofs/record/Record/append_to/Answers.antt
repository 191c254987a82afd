use Rattle.std.proofs.lemmas.Grind.{common_steps}
use Rattle.std.proofs.Common.{arith, rules}
use Rattle.rev_inverse.proofs.record.Record.append_to.Goals as goal

pub returns-clause-ok : goal.returns-clause-ok
returns-clause-ok g c = grind (arith, common_steps) steps 1200000

pub returns-clause-err : goal.returns-clause-err
returns-clause-err g c = search rules steps 1500000
