use Rattle.std.proofs.Common.{arith}
use Rattle.std.proofs.Math.Nat.{pos_of_dvd_of_pos}
use Rattle.rev_import.proofs.setup.reduced.Goals as goal

pub nonzero_div-result : goal.nonzero_div-result
nonzero_div-result c = let some = pos_of_dvd_of_pos c.common_divisor-divisor.ensures.1 (omega arith) in omega (arith, some)

pub nonzero_div-result-2 : goal.nonzero_div-result-2
nonzero_div-result-2 c = let some = pos_of_dvd_of_pos c.common_divisor-divisor.ensures.1 (omega arith) in omega (arith, some)
