use Rattle.std.proofs.Common.{rules}
use Rattle.rev_maintainer.proofs.stepping.is_class.Goals as goal

pub returns-then-class-ne0 : goal.returns-then-class-ne0
returns-then-class-ne0 g c = search rules steps 500000
