use Rattle.std.proofs.Common.{refl}
use Rattle.rev_maintainer.proofs.reads.is_idle.Goals as goal

pub returns : goal.returns
returns g c = rw (c.saturating_sub-age.ensures, c.cold_age.ensures, c.factor_of.ensures, c.globals-globals.ensures) refl
