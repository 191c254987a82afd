use Rattle.std.proofs.Common.{length, ◌-◌}
use Rattle.rev_lives.proofs.Lacks.{last_has}
use Rattle.rev_lives.proofs.hashes.is_last.Goals as goal

pub returns-in-Some : goal.returns-in-Some
returns-in-Some c = λ t. last_has c.args.hashes.now (length c.args.hashes.now - 1) c.in-Some.last.now c.args.hash c.in-Some.ensures.value t
