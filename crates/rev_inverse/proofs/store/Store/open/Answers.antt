use Rattle.std.proofs.Common.{sym, subst}
use Rattle.rev_model.specs.Sound.{Sound}
use Rattle.rev_inverse.proofs.Empty.{empty_sound}
use Rattle.rev_inverse.proofs.store.Store.open.Goals as goal

pub returns-in-Ok-clause-sound : goal.returns-in-Ok-clause-sound
returns-in-Ok-clause-sound g c = subst Sound (sym c.in-Ok.ensures) (empty_sound c.args.config c.in_ok-table.ensures.limits)
