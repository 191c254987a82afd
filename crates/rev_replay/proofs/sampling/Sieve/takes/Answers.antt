use Rattle.std.proofs.Common.{refl}
use Rattle.rev_replay.proofs.sampling.Sieve.takes.Goals as goal

pub returns-in-None-clause-taken : goal.returns-in-None-clause-taken
returns-in-None-clause-taken g c = rw c.in-None.is refl
