use Rattle.std.proofs.Common.{rules}
use Rattle.rev_output.proofs.ToWrite.new.Goals as goal

pub returns : goal.returns
returns g c = search rules steps 500000
