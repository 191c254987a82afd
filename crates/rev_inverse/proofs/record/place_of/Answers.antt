use Rattle.std.proofs.Common.{rules}
use Rattle.rev_inverse.proofs.record.place_of.Goals as goal

pub returns-then-is_turned-clause-place : goal.returns-then-is_turned-clause-place
returns-then-is_turned-clause-place c = search rules steps 500000
