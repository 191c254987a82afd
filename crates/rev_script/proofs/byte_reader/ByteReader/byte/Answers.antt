use Rattle.std.proofs.Common.{rules}
use Rattle.rev_script.proofs.byte_reader.ByteReader.byte.Goals as goal

pub returns-clause-taken : goal.returns-clause-taken
returns-clause-taken g c = search rules steps 1500000
