use Rattle.std.proofs.lemmas.Grind.{common_steps}
use Rattle.std.proofs.Common.{arith}
use Rattle.rev_script.proofs.byte_reader.ByteReader.front.Goals as goal

pub returns-then-there-room : goal.returns-then-there-room
returns-then-there-room g c = grind (arith, common_steps) steps 1200000
