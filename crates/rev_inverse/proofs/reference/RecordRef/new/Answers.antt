use Rattle.std.proofs.Common.{rules}
use Rattle.rev_inverse.proofs.reference.RecordRef.new.Goals as goal

pub returns : goal.returns
returns g c = search rules steps 500000
