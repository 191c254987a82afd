use Rattle.std.proofs.lemmas.Grind.{common_steps}
use Rattle.std.proofs.Common.{arith}
use Rattle.rev_script.proofs.byte_reader.ByteReader.more.Goals as goal

pub returns-clause-some : goal.returns-clause-some
returns-clause-some g c = grind (arith, common_steps) steps 1200000
