use Rattle.std.proofs.Common.{rules}
use Rattle.rev_script.proofs.source.FromRead.new.Goals as goal

pub returns : goal.returns
returns g c = search rules steps 500000
