use Rattle.rev_program.proofs.Grows.{grown_by_files}
use Rattle.rev_program.proofs.scripted.grown_files.Goals as goal

pub returns-clause-grown : goal.returns-clause-grown
returns-clause-grown g c = grown_by_files _ _ _ _ _ _ _ c.grown_traces.ensures.grown
