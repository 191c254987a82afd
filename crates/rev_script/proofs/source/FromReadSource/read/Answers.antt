use Rattle.std.proofs.Common.{rules}
use Rattle.rev_script.proofs.source.FromReadSource.read.Goals as goal

pub returns-in-Err : goal.returns-in-Err
returns-in-Err g c = search rules steps 1500000
