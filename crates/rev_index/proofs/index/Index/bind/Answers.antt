use Rattle.std.proofs.Common.{refl}
use Rattle.rev_index.proofs.index.Index.bind.Goals as goal

pub enter-requires-clause-item : goal.enter-requires-clause-item
enter-requires-clause-item g c = rw c.self.view_is c.requires

pub returns : goal.returns
returns g c = rw (c.enter.ensures.value, c.self.view_is) refl
