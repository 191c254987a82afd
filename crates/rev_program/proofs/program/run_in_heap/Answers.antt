use Rattle.std.proofs.Common.{inl, refl}
use Rattle.rev_program.proofs.program.run_in_heap.Goals as goal

pub returns-in_default-clause-err : goal.returns-in_default-clause-err
returns-in_default-clause-err g c = inl (refl, inl refl)
