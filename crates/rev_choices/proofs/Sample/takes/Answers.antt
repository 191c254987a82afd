use Rattle.std.proofs.Common.{refl}
use Rattle.rev_choices.proofs.Sample.takes.Goals as goal

pub returns : goal.returns
returns g c = rw (c.from.ensures, c.from-2.ensures, c.hash.ensures) refl
